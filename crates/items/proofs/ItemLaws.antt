-- Laws of an item: what its record says of a list, and of a feature. Assumes nothing.
use Prim.Native.Nat.{ℕ}
use mathlib.Core.Bool.{true}
use mathlib.Core.List.{List}
use mathlib.Core.Path.{◌≡◌}
use borrow.Author.Tests.{eq-eqb}
use Rattle.table.specs.Table.{row_of, VRPT, SG2D, SG3D, FFPT, FSPT}
use Rattle.items.specs.Lists.{entries_at}
use Rattle.items.specs.Item.{is_feature, of_feature, list_of, item_at}
use Rattle.items.proofs.KindLaws.{vrpt_list, sg2d_list, sg3d_list, ffpt_list, fspt_list}

-- ---- its lists are those of the record
pub list_said : (s : List ℕ) (at k : ℕ) → (row_of k).list ≡ true → list_of s at k ≡ entries_at s at k
unfolding list_of
list_said s at k is = rw is

pub vrpt_said : (s : List ℕ) (at : ℕ) → (item_at s at).lists VRPT ≡ entries_at s at VRPT
vrpt_said s at = list_said s at VRPT vrpt_list

pub sg2d_said : (s : List ℕ) (at : ℕ) → (item_at s at).lists SG2D ≡ entries_at s at SG2D
sg2d_said s at = list_said s at SG2D sg2d_list

pub sg3d_said : (s : List ℕ) (at : ℕ) → (item_at s at).lists SG3D ≡ entries_at s at SG3D
sg3d_said s at = list_said s at SG3D sg3d_list

pub ffpt_said : (s : List ℕ) (at : ℕ) → (item_at s at).lists FFPT ≡ entries_at s at FFPT
ffpt_said s at = list_said s at FFPT ffpt_list

pub fspt_said : (s : List ℕ) (at : ℕ) → (item_at s at).lists FSPT ≡ entries_at s at FSPT
fspt_said s at = list_said s at FSPT fspt_list

-- ---- of a feature the rest too
pub feature_said : (rcnm v : ℕ) → rcnm ≡ 100 → of_feature rcnm v ≡ v
unfolding of_feature is_feature
feature_said rcnm v is = rw (eq-eqb rcnm 100 is)
