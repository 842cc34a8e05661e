-- The two places of a cut lie within the field. Assumes nothing.
use Prim.Native.Nat.{ℕ, ◌≤◌}
use mathlib.Core.List.{List}
use mathlib.Core.Logic.{⊎_elim}
use mathlib.Core.Path.{◌≡◌}
use native.Mathlib.Omega.{arith}
use lib.ListN.{length}
use Rattle.fieldparts.specs.Descriptive.{parts_of}
use Rattle.fieldparts.specs.PartsPremises.{Within}
use Rattle.fieldparts.specs.declared.descriptive.Parts.{Parts}
use Rattle.fieldparts.proofs.DescriptiveLaws.{parts_either}

pub cut_few : (s : List ℕ) (p : Parts) → p ≡ parts_of s → (p.name ≤ length s) × (p.labels ≤ length s)
cut_few s p is =
    rw is
    (⊎_elim (λ (none : parts_of s ≡ record { name = 0; labels = 0 }). rw none (omega arith))
    (λ (some : Within s (parts_of s)). let order = some.order in let before = some.before in omega arith)
    (parts_either s))
