-- What the code takes and promises of a record of an update that edits no list but attributes. It serves the proofs, and nothing here need be believed.
-- Assumes nothing.
use Rattle.std.specs.Prelude.{ℕ, Bool, false, List, ◌≡◌}
use Rattle.std.proofs.Math.Option.{none}
use Rattle.items.specs.Identity.{rcnm_at}
use Rattle.items.specs.Premises.{LaidOut}
use Rattle.changes.specs.Change.{amendment_at}

-- a record that is laid out, and the rank of its class: 3 for features alone
pub record Classed (s : List ℕ) (at rank : ℕ) : Type 0 where
  pub laid : LaidOut s at
  pub feature : rank ≡ 3 → rcnm_at s at ≡ 100
  pub vector : (rank ≡ 3 → ⊥) → rcnm_at s at ≡ 100 → ⊥

-- where r is false, the record has neither control
pub record ControlTold (s : List ℕ) (at : ℕ) (r : Bool) : Type 0 where
  pub first : r ≡ false → (amendment_at s at).first ≡ none
  pub second : r ≡ false → (amendment_at s at).second ≡ none
