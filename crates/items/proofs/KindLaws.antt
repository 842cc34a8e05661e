-- What the table says of the kinds that an item is made of. Assumes nothing.
use mathlib.Core.Bool.{true, false}
use mathlib.Core.Path.{◌≡◌, refl}
use Prim.Native.Nat.{ℕ}
use Rattle.entries.specs.Premises.{Sound}
use Rattle.table.specs.declared.Kind.{Kind}
use Rattle.table.specs.Table.{table, row_of, kind_row, ATTV, VRPT, SG2D, SG3D, ATTF, NATF, FFPT, FSPT}
use Rattle.layout.specs.Layout.{shape_of}
use Rattle.layout.proofs.KindLaws.{shape_sound}

-- ---- a shape by the row as the code keeps it
pub shape_is : (k : ℕ) (row : Kind) → row ≡ kind_row k
    → (record { fixed = row.fixed; unit = row.unit } ≡ shape_of k) × Sound (record { fixed = row.fixed; unit = row.unit })
shape_is k row e =
    let same : record { fixed = row.fixed; unit = row.unit } ≡ shape_of k = rw e in
    (same, rw same (shape_sound k))

-- ---- the eight lists, with the fixed bytes of their entries, and those without a text
pub attv_list : (row_of ATTV).list ≡ true
unfolding row_of table
attv_list = refl

pub vrpt_list : (row_of VRPT).list ≡ true
unfolding row_of table
vrpt_list = refl

pub sg2d_list : (row_of SG2D).list ≡ true
unfolding row_of table
sg2d_list = refl

pub sg3d_list : (row_of SG3D).list ≡ true
unfolding row_of table
sg3d_list = refl

pub attf_list : (row_of ATTF).list ≡ true
unfolding row_of table
attf_list = refl

pub natf_list : (row_of NATF).list ≡ true
unfolding row_of table
natf_list = refl

pub ffpt_list : (row_of FFPT).list ≡ true
unfolding row_of table
ffpt_list = refl

pub fspt_list : (row_of FSPT).list ≡ true
unfolding row_of table
fspt_list = refl

pub attv_fixed : (row_of ATTV).fixed ≡ 2
unfolding row_of table
attv_fixed = refl

pub vrpt_fixed : (row_of VRPT).fixed ≡ 9
unfolding row_of table
vrpt_fixed = refl

pub sg2d_fixed : (row_of SG2D).fixed ≡ 8
unfolding row_of table
sg2d_fixed = refl

pub sg3d_fixed : (row_of SG3D).fixed ≡ 12
unfolding row_of table
sg3d_fixed = refl

pub attf_fixed : (row_of ATTF).fixed ≡ 2
unfolding row_of table
attf_fixed = refl

pub natf_fixed : (row_of NATF).fixed ≡ 2
unfolding row_of table
natf_fixed = refl

pub ffpt_fixed : (row_of FFPT).fixed ≡ 9
unfolding row_of table
ffpt_fixed = refl

pub fspt_fixed : (row_of FSPT).fixed ≡ 8
unfolding row_of table
fspt_fixed = refl

pub vrpt_bare : (row_of VRPT).text ≡ false
unfolding row_of table
vrpt_bare = refl

pub sg2d_bare : (row_of SG2D).text ≡ false
unfolding row_of table
sg2d_bare = refl

pub sg3d_bare : (row_of SG3D).text ≡ false
unfolding row_of table
sg3d_bare = refl

pub fspt_bare : (row_of FSPT).text ≡ false
unfolding row_of table
fspt_bare = refl
