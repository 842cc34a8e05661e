-- An object that an allowed record inserts or modifies is a good one of a chart. Assumes nothing.
use Prim.Native.Nat.{ℕ, ◌+◌, ◌≤◌, ◌<◌}
use mathlib.Core.Bool.{Bool, true, false, cond, ◌||◌}
use mathlib.Core.Path.{◌≡◌}
use native.Mathlib.Omega.{arith}
use lib.Dec.{eqb}
use borrow.Author.Tests.{ne_eqb}
use Rattle.values.specs.Vrid.{is_vector}
use Rattle.items.specs.Identity.{rank_of, name_from}
use Rattle.items.specs.Item.{is_feature, Item, item_name}
use Rattle.itemfields.specs.Fields.{vector_kinds, feature_kinds}
use Rattle.itemfields.specs.Good.{Vector, Feature}
use Rattle.itemfields.proofs.FieldsLaws.{class_small}
use Rattle.held.specs.Good.{Good}
use Rattle.held.specs.Good.Good.{a_vector, a_feature}
use Rattle.edits.specs.InsertDelete.{insert_allowed}
use Rattle.edits.proofs.InsertLaws.{inserted_good}
use Rattle.edits.proofs.ListsLaws.{lists_stay_good}
use Rattle.edits.proofs.CoordinatesLaws.{either_stays}
use Rattle.changes.specs.Change.{Amendment, edit_of}
use Rattle.changes.specs.Amend.{kinds_of}
use Rattle.changes.specs.Updated.{amended}
use Rattle.changes.specs.Good.{ObjectBrought}
use Rattle.changes.specs.Good.ObjectBrought.{brought_vector, brought_feature}

-- ---- the kinds of lists
pub vector_kinds_lem : (rcnm : ℕ) → is_vector rcnm ≡ true → kinds_of rcnm ≡ vector_kinds
unfolding kinds_of is_feature
vector_kinds_lem rcnm is = let p = (class_small rcnm is).1 in rw (ne_eqb rcnm 100 (λ z. omega arith))

pub feature_kinds_lem : (rcnm : ℕ) → rcnm ≡ 100 → kinds_of rcnm ≡ feature_kinds
unfolding kinds_of is_feature
feature_kinds_lem rcnm is = rw is

-- ---- no vector has the name of a feature
low_rank : (a b c : Bool) → (a || (b || c)) ≡ true → cond a 0 (cond b 1 (cond c 2 3)) ≤ 2
low_rank true b c h = omega arith
low_rank false true c h = omega arith
low_rank false false true h = omega arith
low_rank false false false h = absurd (let z : ◌≡◌ {A = ℕ} 0 1 = cc in omega arith)

vector_low : (t : Item) → is_vector t.rcnm ≡ true → t.rcid ≤ 4294967294 → item_name t < 12884901888
unfolding name_from rank_of is_vector
vector_low t class high =
    let r = low_rank (eqb t.rcnm 110) (eqb t.rcnm 120) (eqb t.rcnm 130) class in omega arith

feature_high : (t : Item) → t.rcnm ≡ 100 → 12884901888 ≤ item_name t
unfolding name_from rank_of
feature_high t class = rw class (omega arith)

-- ---- an insert
pub inserted_object : {aall nall : ℕ} (a : Amendment) → ObjectBrought aall nall a.object → insert_allowed (kinds_of a.object.rcnm) (edit_of a) ≡ true
    → Good aall nall a.object
inserted_object a (brought_vector b) may =
    a_vector (record {
      class = b.class;
      id_low = b.id_low;
      id_high = b.id_high;
      version_low = b.version_low;
      version_high = b.version_high;
      bare = b.bare;
      lists = inserted_good (edit_of a) b.lists (rw (vector_kinds_lem a.object.rcnm b.class) at may);
      either = b.either;
    })
inserted_object a (brought_feature b) may =
    a_feature (record {
      class = b.class;
      id_low = b.id_low;
      id_high = b.id_high;
      version_low = b.version_low;
      version_high = b.version_high;
      prim_is_good = b.prim_is_good;
      prim_small = b.prim_small;
      grup_small = b.grup_small;
      objl_is_good = b.objl_is_good;
      objl_small = b.objl_small;
      foid_small = b.foid_small;
      lists = inserted_good (edit_of a) b.lists (rw (feature_kinds_lem a.object.rcnm b.class) at may);
    })

-- ---- a modify
amended_vector : {aall nall : ℕ} (a : Amendment) {t : Item} → Vector false aall nall t → Vector true aall nall a.object → a.object.version ≡ t.version + 1
    → Vector false aall nall (amended a t)
unfolding amended
amended_vector a {t} v b e = record {
  class = v.class;
  id_low = v.id_low;
  id_high = v.id_high;
  version_low = omega arith;
  version_high = let h = b.version_high in omega arith;
  bare = v.bare;
  lists = lists_stay_good (edit_of a) v.lists b.lists;
  either = either_stays (edit_of a) t.lists v.either;
}

amended_feature : {aall nall : ℕ} (a : Amendment) {t : Item} → Feature false aall nall t → Feature true aall nall a.object → a.object.version ≡ t.version + 1
    → Feature false aall nall (amended a t)
unfolding amended
amended_feature a {t} v b e = record {
  class = v.class;
  id_low = v.id_low;
  id_high = v.id_high;
  version_low = omega arith;
  version_high = let h = b.version_high in omega arith;
  prim_is_good = v.prim_is_good;
  prim_small = v.prim_small;
  grup_small = v.grup_small;
  objl_is_good = v.objl_is_good;
  objl_small = v.objl_small;
  foid_small = v.foid_small;
  lists = lists_stay_good (edit_of a) v.lists b.lists;
}

-- what has the name of a vector is a vector
pub amended_object : {aall nall : ℕ} (a : Amendment) {t : Item} → Good aall nall t → ObjectBrought aall nall a.object → item_name a.object ≡ item_name t
    → a.object.version ≡ t.version + 1 → Good aall nall (amended a t)
amended_object a (a_vector v) (brought_vector b) same e = a_vector (amended_vector a v b e)
amended_object a {t} (a_vector v) (brought_feature b) same e =
    let low = vector_low t v.class v.id_high in
    let high = feature_high a.object b.class in
    absurd (omega arith)
amended_object a {t} (a_feature v) (brought_vector b) same e =
    let high = feature_high t v.class in
    let low = vector_low a.object b.class b.id_high in
    absurd (omega arith)
amended_object a (a_feature v) (brought_feature b) same e = a_feature (amended_feature a v b e)
