-- A unit, by the calls alone: what Admit wrote, and what becomes of it as files are offered. No chart is named here. `admit_of`, `admit_area`, `apply_of`, `apply_area` are
-- what the calls' contracts say of answer and output. Assumes nothing.
use Rattle.std.specs.Prelude.{ℕ, cond, ◌≡◌, length, take, eqb}
use mathlib.Core.List.{List, [], ◌∷◌, Memᴰ, map}
use Rattle.loader.specs.Admit.{admit_of, admit_area}
use Rattle.loader.specs.Apply.{apply_of, apply_area}
use Rattle.demands.specs.Cell.{Bytes}

-- ---- what a call wrote, with w bytes of work and this output area lent
-- "the bytes an accepted Admit wrote (as many as Number says)"
unfoldable pub admit_wrote : List ℕ → ℕ → List ℕ → List ℕ
admit_wrote cell w area = take (admit_of cell w (length area)).number (admit_area cell w area)

-- "those Apply on them wrote"
unfoldable pub apply_wrote : List ℕ → List ℕ → ℕ → List ℕ → List ℕ
apply_wrote cell file w area = take (apply_of cell file w (length area)).number (apply_area cell file w area)

-- ---- an offer
-- "Offer files in any order, repeated or with gaps", "whatever areas were lent": any file, any length of the work area, any output area as it was lent
pub record Offer : Type 0 where
  pub file : List ℕ
  pub work : ℕ
  pub area : List ℕ

-- "replaced at each offered file by those Apply on them wrote if it gave 0, else kept"
unfoldable pub offered : List ℕ → Offer → List ℕ
offered cell o = cond (eqb (apply_of cell o.file o.work (length o.area)).code 0) (apply_wrote cell o.file o.work o.area) cell

-- one offer after the other
unfoldable pub after : List ℕ → List Offer → List ℕ
after cell [] = cell
after cell (o ∷ os) = after (offered cell o) os

-- the files of these offers, and one of them
abbrev pub files_of : List Offer → List (List ℕ)
files_of os = map (λ (o : Offer). o.file) os

abbrev pub In : List Offer → List ℕ → Type 0
In os file = Memᴰ file (files_of os)

-- a file is a list of numbers below 256: so is everything that a call can be lent, and no file is left out by it
abbrev pub BytesEach : (List ℕ → Type 0) → Type 0
BytesEach Offered = (file : List ℕ) → Offered file → Bytes file

-- ---- a unit of this base, at each moment of its life; `Offered` are the files offered to any unit
-- "A unit in demand 3 is the bytes an accepted Admit wrote (as many as Number says), replaced at each offered file by those Apply on them wrote if it gave 0,
-- else kept, whatever areas were lent"; and one "began from the other's re-issue" if the cell that Admit accepted was what such a unit held
pub data UnitOf (Offered : List ℕ → Type 0) (base : List ℕ) : List ℕ → Type 0 where
  begun : (w : ℕ) (area : List ℕ) → (admit_of base w (length area)).code ≡ 0 → UnitOf Offered base (admit_wrote base w area)
  given : {cell : List ℕ} (o : Offer) → Offered o.file → UnitOf Offered base cell → UnitOf Offered base (offered cell o)
  again : {cell : List ℕ} (w : ℕ) (area : List ℕ) → (admit_of cell w (length area)).code ≡ 0 → UnitOf Offered base cell → UnitOf Offered base (admit_wrote cell w area)
