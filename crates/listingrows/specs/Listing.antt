-- The listing of a cell: a line for each vector and feature, or the refusal. Assumes nothing.
use Rattle.std.specs.Prelude.{ℕ, ◌+◌, ◌*◌, ◌≤◌, false, cond, List, [], ◌∷◌, ◌++◌, ◌≡◌, length, eqb, ltb, Result, Ok, Err}
use Rattle.iso8211.specs.File.{frame_of}
use Rattle.words.specs.Words.{words_in}
use Rattle.table.specs.Table.{ATTV, VRPT, SG2D, SG3D, ATTF, NATF, FFPT, FSPT}
use Rattle.items.specs.Item.{Item}
use Rattle.names.specs.Held.{held_items}
use Rattle.names.specs.Premises.{Readable, AllStand}
use Rattle.judging.specs.Judge.{judge_of}
use Rattle.listingrows.specs.Text.{line_of, refused_text, header_text}
use Rattle.answers.specs.Codes.{LONG}
use Rattle.answers.specs.declared.answer.Answer.{Answer}

-- "sizes of attribute, pointer and coordinate lists (a feature's two of each kind added)": how many entries the list of kind k has
unfoldable pub size_of : Item → ℕ → ℕ
size_of i k = length (i.lists k)

unfoldable pub attributes_of : Item → ℕ
attributes_of i = cond (eqb i.rcnm 100) (size_of i ATTF + size_of i NATF) (size_of i ATTV)

unfoldable pub pointers_of : Item → ℕ
pointers_of i = cond (eqb i.rcnm 100) (size_of i FFPT + size_of i FSPT) (size_of i VRPT)

-- a feature has no coordinates; of a vector one of the two lists is empty
unfoldable pub coordinates_of : Item → ℕ
coordinates_of i = cond (eqb i.rcnm 100) 0 (size_of i SG2D + size_of i SG3D)

-- "RCNM, RCID, RVER, sizes of attribute, pointer and coordinate lists"
unfoldable pub row_of : Item → List ℕ
row_of i = i.rcnm ∷ i.rcid ∷ i.version ∷ attributes_of i ∷ pointers_of i ∷ coordinates_of i ∷ []

-- a line for each of these items, the first at this place
unfoldable pub lines_from : ℕ → List Item → List ℕ
lines_from place [] = []
lines_from place (i ∷ is) = line_of place (row_of i) ++ lines_from (place + 1) is

-- "the header below, then vectors and features in held order", the first at place 3
unfoldable pub lines_of : List ℕ → ℕ → List ℕ
lines_of s n = header_text ++ lines_from 3 (held_items s n)

-- a cell that Judge gave 0 is framed (`judge_broken`)
unfoldable pub framed_lines : List ℕ → Result ℕ ℕ → List ℕ
framed_lines s (Ok n) = lines_of s n
framed_lines s (Err k) = []

-- "Where Judge gives 0 it prints the header below", else the refusal
unfoldable pub listing_with : Answer → List ℕ → List ℕ
listing_with a s = cond (eqb a.code 0) (framed_lines s (frame_of s)) (refused_text a.code a.file a.index)

-- "reads a cell of at most 65,536 bytes from standard input (longer is refused: 1, 1, 0). Its work area always suffices": it has 32,768 bytes
unfoldable pub listing_of : List ℕ → List ℕ
listing_of s = cond (ltb 65536 (length s)) (refused_text LONG 1 0) (listing_with (judge_of s 32768) s)

-- the answer a is 0 only where s is a cell that can be read
pub record JudgedCell (s : List ℕ) (a : Answer) : Type 0 where
  pub good : a.code ≡ 0 → (n : ℕ) → frame_of s ≡ Ok n → Readable false s n

-- the first m words of the work area stand for records of a cell that is not too long; a record takes 32 bytes at least, so they are few
pub record Listable (s : List ℕ) (m : ℕ) (work : List ℕ) : Type 0 where
  pub short : length s ≤ 65536
  pub few : m ≤ 2048
  pub room : 8 * m ≤ length work
  pub stand : AllStand s (words_in work 0 m)
