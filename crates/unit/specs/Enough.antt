-- Areas that suffice for each of a list of offers. Assumes nothing.
use Rattle.std.specs.Prelude.{ℕ, List, [], ◌∷◌, length}
use Rattle.demands.specs.Update.{Areas}
use Rattle.unit.specs.Unit.{Offer, offered}

-- "the areas suffice": those of each offer, for the cell as the offers before it left it
pub data Enough : List ℕ → List Offer → Type 0 where
  enough_none : {cell : List ℕ} → Enough cell []
  enough_more : {cell : List ℕ} {o : Offer} {os : List Offer} → Areas cell o.file o.work (length o.area) → Enough (offered cell o) os → Enough cell (o ∷ os)
