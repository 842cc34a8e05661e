-- Worked examples, computed: the definitions tried on a few fields before anything is proved of them. Assumes nothing.
use Prim.Native.Nat.{ℕ}
use mathlib.Core.Bool.{true, false}
use mathlib.Core.List.{List, [], ◌∷◌}
use mathlib.Core.Path.{◌≡◌, refl}
use Rattle.octets.specs.Number.{num_at}
use Rattle.values.specs.Fault.{fault_at, first}
use Rattle.values.specs.Rule.{within, rcid_good, rver_good, ruin_good}
use Rattle.values.specs.Class.{is_geo, is_meta, is_collection, class_of, is_class, objl_good}
use Rattle.values.specs.Vrid.{is_vector, vrid_fault}
use Rattle.values.specs.Frid.{prim_good, frid_fault}

-- ---- a deleted edge is fine in an update, and wrong at its RUIN in a cell
vrid : List ℕ
vrid = 130 ∷ 254 ∷ 255 ∷ 255 ∷ 255 ∷ 1 ∷ 0 ∷ 2 ∷ []

vrid_update : vrid_fault true vrid ≡ 0
unfolding vrid vrid_fault first fault_at is_vector rcid_good rver_good ruin_good within num_at
vrid_update = refl

vrid_cell : vrid_fault false vrid ≡ 8
unfolding vrid vrid_fault first fault_at is_vector rcid_good rver_good ruin_good within num_at
vrid_cell = refl

-- ---- a feature of class 402 is wrong at its OBJL
frid_402 : frid_fault false (100 ∷ 1 ∷ 0 ∷ 0 ∷ 0 ∷ 255 ∷ 2 ∷ 146 ∷ 1 ∷ 1 ∷ 0 ∷ 1 ∷ []) ≡ 8
unfolding frid_fault first fault_at rcid_good rver_good ruin_good within num_at prim_good objl_good class_of is_class is_geo is_meta is_collection
frid_402 = refl
