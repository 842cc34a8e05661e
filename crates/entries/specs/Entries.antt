-- The entries of a list field: a byte string, cut by the shape of its entries. Assumes nothing.
use Rattle.std.specs.Prelude.{ℕ, zero, suc, ◌+◌, ◌<◌, Bool, cond, ◌&&◌, ◌≡◌, length, take, drop, leb, ltb, eqb}
use mathlib.Core.List.{List, [], ◌∷◌, flatten}
use Rattle.octets.specs.Number.{num_at}
use Rattle.entries.specs.declared.Shape.{Shape}
use Rattle.entries.specs.declared.Extent.{Extent}

-- "Numbers are low byte first": the first unit of a text whose units are w bytes wide
abbrev pub unit_of : ℕ → List ℕ → ℕ
unit_of w bs = num_at bs 0 w

-- "A without a size ends in 1F": `led` and the length of the text at the front of bs, its terminator counted; 0 where none comes
unfoldable pub text_from : ℕ → ℕ → List ℕ → ℕ → ℕ
text_from zero w bs led = 0
text_from (suc f) w bs led =
    cond (ltb (length bs) w) 0 (cond (eqb (unit_of w bs) 31) (led + w) (text_from f w (drop w bs) (led + w)))

-- a unit takes a byte at least, so fuel for each byte never ends first (`text_on`)
unfoldable pub text_len : ℕ → List ℕ → ℕ → ℕ
text_len w bs led = text_from (length bs) w bs led

-- "b12,A", "B(40),4b11", "2b24", "B(64),b11,A" and the like: how long the entry at the front of bs is, its fixed bytes and then
-- a text of units of `unit` bytes (0: no text); 0 where no whole entry stands there
unfoldable pub entry_len : Shape → List ℕ → ℕ
entry_len sh bs =
    cond (ltb (length bs) sh.fixed) 0
    (cond (eqb sh.unit 0) sh.fixed (text_len sh.unit (drop sh.fixed bs) sh.fixed))

-- "a list field holds one group or more": the whole entries at the front of bs, one after the other
unfoldable pub entries_from : ℕ → Shape → List ℕ → List (List ℕ)
entries_from zero sh bs = []
entries_from (suc f) sh bs =
    cond (eqb (entry_len sh bs) 0) [] (take (entry_len sh bs) bs ∷ entries_from f sh (drop (entry_len sh bs) bs))

-- an entry takes a byte at least, so fuel for each byte never ends first (`entries_more`)
unfoldable pub entries_of : Shape → List ℕ → List (List ℕ)
entries_of sh bs = entries_from (length bs) sh bs

-- a byte string that is one whole entry
pub record Entry (sh : Shape) (e : List ℕ) : Type 0 where
  pub is : entry_len sh e ≡ length e
  pub some : 0 < length e

-- entries that are whole, each
pub data Each (sh : Shape) : List (List ℕ) → Type 0 where
  each_none : Each sh []
  each_more : {e : List ℕ} {es : List (List ℕ)} → Entry sh e → Each sh es → Each sh (e ∷ es)

-- how many entries, and where they end
abbrev pub extent_of : Shape → List ℕ → Extent
extent_of sh bs = record { count = length (entries_of sh bs); end = length (flatten (entries_of sh bs)) }

-- "a list field holds one group or more", and is "filled by its subfields"
unfoldable pub whole_good : Shape → List ℕ → Bool
whole_good sh bs = leb 1 (extent_of sh bs).count && eqb (extent_of sh bs).end (length bs)
