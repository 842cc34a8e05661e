-- What is known of a vector or a feature of a chart: enough that its held form is read back; and of one that an update brings, whose lists may hold 7F.
-- It serves the proofs, and nothing here need be believed. Assumes nothing.
use Rattle.std.specs.Prelude.{ℕ, ◌≤◌, ◌<◌, Bool, true, false, List, [], ◌⊎◌, ◌≡◌}
use Rattle.octets.specs.Lists.{is_in}
use Rattle.entries.specs.Entries.{Each}
use Rattle.table.specs.Table.{SG2D, SG3D}
use Rattle.layout.specs.Layout.{shape_of}
use Rattle.values.specs.Vrid.{is_vector}
use Rattle.values.specs.Frid.{prim_good}
use Rattle.values.specs.Class.{objl_good}
use Rattle.itemfields.specs.Views.{list_good}
use Rattle.items.specs.Item.{Item}
use Rattle.itemfields.specs.Fields.{vector_kinds, feature_kinds}

-- lists of these kinds alone, of whole entries, with values that are good in a cell or in an update, at these levels
pub record Lists (update : Bool) (aall nall : ℕ) (kinds : List ℕ) (ls : ℕ → List (List ℕ)) : Type 0 where
  pub each : (k : ℕ) → Each (shape_of k) (ls k)
  pub only : (k : ℕ) → is_in k kinds ≡ false → ls k ≡ []
  pub good : (k : ℕ) → list_good update aall nall k (ls k) ≡ true

pub record Vector (update : Bool) (aall nall : ℕ) (t : Item) : Type 0 where
  pub class : is_vector t.rcnm ≡ true
  pub id_low : 1 ≤ t.rcid
  pub id_high : t.rcid ≤ 4294967294
  pub version_low : 1 ≤ t.version
  pub version_high : t.version ≤ 65535
  pub bare : (t.prim ≡ 0) × (t.grup ≡ 0) × (t.objl ≡ 0) × (t.foid ≡ 0)
  pub lists : Lists update aall nall vector_kinds t.lists
  pub either : (t.lists SG2D ≡ []) ⊎ (t.lists SG3D ≡ [])

pub record Feature (update : Bool) (aall nall : ℕ) (t : Item) : Type 0 where
  pub class : t.rcnm ≡ 100
  pub id_low : 1 ≤ t.rcid
  pub id_high : t.rcid ≤ 4294967294
  pub version_low : 1 ≤ t.version
  pub version_high : t.version ≤ 65535
  pub prim_is_good : prim_good t.prim ≡ true
  pub prim_small : t.prim < 256
  pub grup_small : t.grup < 256
  pub objl_is_good : objl_good t.objl ≡ true
  pub objl_small : t.objl < 65536
  pub foid_small : t.foid < 18446744073709551616
  pub lists : Lists update aall nall feature_kinds t.lists
