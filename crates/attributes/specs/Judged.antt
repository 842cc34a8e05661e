-- What the judge of a field of attributes promises. It serves the proofs, and nothing here need be believed. Assumes nothing.
use Rattle.std.specs.Prelude.{ℕ, ◌<◌, Bool, List, ◌≡◌, length, Result, OnOk, IfErr}
use Rattle.values.specs.declared.fault.Fault.{Fault}
use Rattle.values.specs.Fault.{told}
use Rattle.attributes.specs.Attributes.{attributes_fault, met_after}
use Rattle.attributes.specs.Premises.{Stamped, Upto}

-- "Repeats of a tag join into one list", "No ATTL twice in one ATTV, ATTF or NATF list": r tells the fault of the field c, whatever labels
-- the list had met in its fields before, as long as the table `before` has exactly these under the stamp; where there is none,
-- the table `after` has those of c too
pub record AttributesJudged (update high : Bool) (c : List ℕ) (stamp : ℕ) (before after : List ℕ) (r : Result Unit Fault) : Type 0 where
  pub fault : (seen : List ℕ) → Stamped before stamp seen → r ≡ told (attributes_fault update high seen c)
  pub met : (seen : List ℕ) → Stamped before stamp seen → OnOk r (Stamped after stamp (met_after seen c))
  pub upto : Upto before stamp → Upto after stamp
  pub within : IfErr r (λ f. f.at < length c)
