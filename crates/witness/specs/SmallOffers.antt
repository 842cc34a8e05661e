-- The updates of the small cell as they are offered to two units: in the wrong order, repeated, with a gap, with areas too short. Assumes nothing.
use Rattle.std.specs.Prelude.{ℕ, cond, List, [], ◌∷◌, replicate, eqb}
use Rattle.unit.specs.Unit.{Offer}
use Rattle.witness.specs.SmallUpdates.{moving, deleting}

-- an output area for the longest of the held forms
unfoldable pub room : List ℕ
room = replicate 2077 0

-- a file with areas that suffice; with a byte of work too few; with no output
abbrev pub lent : List ℕ → Offer
lent file = record { file = file; work = 160; area = room }

abbrev pub narrow : List ℕ → Offer
narrow file = record { file = file; work = 159; area = room }

abbrev pub tight : List ℕ → Offer
tight file = record { file = file; work = 160; area = [] }

-- to the first unit: update 2 too early, update 1 twice, then update 2
abbrev pub offers : List Offer
offers = lent deleting ∷ lent moving ∷ lent moving ∷ lent deleting ∷ []

-- to the second: update 1 with areas too short, then in order, then update 1 once more
abbrev pub others : List Offer
others = narrow moving ∷ tight moving ∷ lent moving ∷ lent deleting ∷ lent moving ∷ []

-- the two by their numbers
unfoldable pub library : ℕ → List ℕ
library n = cond (eqb n 1) moving deleting
