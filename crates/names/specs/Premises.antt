-- What the code knows of a file's items and of their words. It serves the proofs, and nothing here need be believed. Assumes nothing.
use Rattle.std.specs.Prelude.{ℕ, ◌+◌, ◌-◌, ◌*◌, ◌≤◌, ◌<◌, Bool, false, List, ◌≡◌, length, get_or, Ok}
use Rattle.iso8211.specs.File.{frame_of, record_at}
use Rattle.words.specs.Words.{words_in}
use Rattle.words.specs.Order.{sorted, Sorted}
use Rattle.items.specs.Identity.{word_for}
use Rattle.items.specs.Word.{name_of, word_offset}
use Rattle.items.specs.Premises.{LaidOut, Identified}
use Rattle.names.specs.Names.{first_item}
use Rattle.names.specs.NameWords.{name_words}

-- what is known of a file of n records that passed Layout and Value
pub record Readable (update : Bool) (s : List ℕ) (n : ℕ) : Type 0 where
  pub framed : frame_of s ≡ Ok n
  pub short : length s ≤ 5242880
  pub head : first_item update ≤ n
  pub items : (k : ℕ) → first_item update ≤ k → k < n → LaidOut s (record_at s k) × Identified s (record_at s k)

-- words in the file's order: their places ascend
pub record Ascending (ws : List ℕ) : Type 0 where
  pub up : (p q : ℕ) → p < q → q < length ws → word_offset (get_or ws p 0) < word_offset (get_or ws q 0)

-- words in held order of a file without a name twice: their names rise
pub record Strict (ws : List ℕ) : Type 0 where
  pub up : (p q : ℕ) → p < q → q < length ws → name_of (get_or ws p 0) < name_of (get_or ws q 0)

-- a word that stands for a record which is laid out
pub record Stands (s : List ℕ) (w : ℕ) : Type 0 where
  pub is : w ≡ word_for s (word_offset w)
  pub laid : LaidOut s (word_offset w)
  pub known : Identified s (word_offset w)

pub record AllStand (s ws : List ℕ) : Type 0 where
  pub each : (p : ℕ) → p < length ws → Stands s (get_or ws p 0)

-- the first n - 3 words of the work area are those of the cell's items in held order
pub record HeldIn (s : List ℕ) (n : ℕ) (work : List ℕ) : Type 0 where
  pub words : words_in work 0 (n - 3) ≡ sorted (name_words false s n)

-- The work area while topology is judged: the words of m items in order, then a note for each of them. The first v items are vectors; the
-- notes of the others, which are features, are in order
pub record Noted (work : List ℕ) (m v : ℕ) : Type 0 where
  pub room : 16 * m ≤ length work
  pub few : v ≤ m
  pub order : Sorted (words_in work 0 m)
  pub foids : Sorted (words_in work (m + v) (m - v))
