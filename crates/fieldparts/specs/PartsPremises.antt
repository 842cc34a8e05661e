-- -- What the code of `fieldparts` asks; nothing here need be believed. Assumes nothing.
use Rattle.std.specs.Prelude.{ℕ, ◌+◌, ◌≤◌, ◌<◌, List, length}
use Rattle.fieldparts.specs.declared.descriptive.Parts.{Parts}

-- what two places that were found say of the field
pub record Within (s : List ℕ) (p : Parts) : Type 0 where
  pub after : 9 ≤ p.name
  pub order : p.name < p.labels
  pub before : p.labels + 1 < length s
