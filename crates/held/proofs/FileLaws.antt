-- A whole chart, written and read back. Assumes nothing.
use Prim.Native.Nat.{ℕ, ◌+◌, ◌-◌, ◌≤◌, ◌<◌}
use mathlib.Core.Bool.{Bool, true, false, cond, ◌||◌}
use mathlib.Core.List.{List, []}
use mathlib.Core.Logic.{inl, inr}
use mathlib.Core.Path.{◌≡◌, refl, ◌∙◌}
use native.Mathlib.Omega.{arith}
use lib.ListN.{length}
use lib.Dec.{eqb, ltb}
use borrow.Author.Tests.{eq-eqb, ne_eqb}
use Rattle.iso8211.specs.Record.{end_of}
use Rattle.table.specs.Table.{row_of, table, tag_of, kind_of, among, as_number, first}
use Rattle.table.specs.Text.{bytes}
use Rattle.values.specs.Vrid.{is_vector}
use Rattle.layout.specs.Layout.{layout_fault}
use Rattle.fieldvalue.specs.Value.{value_fault}
use Rattle.chart.specs.Read.{next_stage, is_feature, passed_state, records_fault}
use Rattle.chart.specs.declared.read.State.{State}
use Rattle.items.specs.Identity.{rank_of, name_from}
use Rattle.records.specs.Premises.{pieces_at}
use Rattle.records.proofs.WrittenLaws.{fields_read}
use Rattle.records.proofs.FileLaws.{Stand}
use Rattle.records.proofs.FileLaws.Stand.{stand_more}
use Rattle.items.specs.Item as item
use Rattle.items.specs.Item.{Item, item_at, item_name}
use Rattle.itemfields.specs.Fields.{piece, vector_pieces, feature_pieces, item_pieces}
use Rattle.itemfields.specs.Good.{Vector, Feature}
use Rattle.names.specs.Names.{items_from}
use Rattle.held.specs.Held.{items_pieces}
use Rattle.held.specs.Good.{Good, Ordered}
use Rattle.held.specs.Good.Good.{a_vector, a_feature}
use Rattle.held.specs.Good.Ordered.{ordered_none, ordered_more}
use Rattle.itemfields.proofs.ViewLaws.{laid_seen, values_seen, tag_seen}
use Rattle.itemfields.proofs.LaidLaws.{Declared}
use Rattle.itemfields.proofs.FieldsLaws.{class_small, laid_vector, laid_feature, valued_vector, valued_feature, vector_back, feature_back}
use Rattle.answers.specs.Answer.{fine}

-- ---- one object, of either kind
pub vector_pieces_lem : (n : ℕ) (t : Item) {aall nall : ℕ} → Vector false aall nall t → item_pieces n t ≡ vector_pieces n t
unfolding item_pieces item.is_feature
vector_pieces_lem n t v = let s = class_small t.rcnm v.class in rw (ne_eqb t.rcnm 100 (λ e. omega arith))

pub feature_pieces_lem : (n : ℕ) (t : Item) {aall nall : ℕ} → Feature false aall nall t → item_pieces n t ≡ feature_pieces n t
unfolding item_pieces item.is_feature
feature_pieces_lem n t f = rw (eq-eqb t.rcnm 100 f.class)

pub object_back : {aall nall : ℕ} (t : Item) → Good aall nall t → (s : List ℕ) (at n : ℕ) → pieces_at s at ≡ item_pieces n t → item_at s at ≡ t
object_back t (a_vector v) s at n is = vector_back t v s at n (is ∙ vector_pieces_lem n t v)
object_back t (a_feature f) s at n is = feature_back t f s at n (is ∙ feature_pieces_lem n t f)

-- the record that is due can be a vector, or only a feature
pub data Due : ℕ → ℕ → Type 0 where
  due_any : {low : ℕ} → Due 2 low
  due_feature : {low : ℕ} → 12884901888 ≤ low → Due 3 low

-- what judging an object's record finds, and what comes behind it
pub record ObjectRead (aall nall stage : ℕ) (marks s : List ℕ) (at : ℕ) (t : Item) : Type 0 where
  pub laid : layout_fault false stage marks s at ≡ 0
  pub valued : value_fault false aall nall s at ≡ 0
  pub next : Due (next_stage false stage (is_feature s at)) (item_name t + 1)

low_rank : (a b c : Bool) → (a || (b || c)) ≡ true → cond a 0 (cond b 1 (cond c 2 3)) ≤ 2
low_rank true b c h = omega arith
low_rank false true c h = omega arith
low_rank false false true h = omega arith
low_rank false false false h = absurd (let z : ◌≡◌ {A = ℕ} 0 1 = cc in omega arith)

vector_name : (t : Item) {aall nall : ℕ} → Vector false aall nall t → item_name t < 12884901888
unfolding name_from rank_of is_vector
vector_name t v =
    let r = low_rank (eqb t.rcnm 110) (eqb t.rcnm 120) (eqb t.rcnm 130) v.class in
    let h = v.id_high in
    omega arith

feature_name : (t : Item) {aall nall : ℕ} → Feature false aall nall t → 12884901888 ≤ item_name t
unfolding name_from rank_of
feature_name t f = rw f.class (omega arith)

vector_kind : (s : List ℕ) (at n : ℕ) (t : Item) → pieces_at s at ≡ vector_pieces n t → is_feature s at ≡ false
unfolding is_feature vector_pieces kind_of among tag_of row_of table as_number bytes
vector_kind s at n t is = rw (tag_seen s at (vector_pieces n t) 1 (piece first []) is (omega arith))

feature_kind : (s : List ℕ) (at n : ℕ) (t : Item) → pieces_at s at ≡ feature_pieces n t → is_feature s at ≡ true
unfolding is_feature feature_pieces kind_of among tag_of row_of table as_number bytes
feature_kind s at n t is = rw (tag_seen s at (feature_pieces n t) 1 (piece first []) is (omega arith))

pub object_read : {aall nall stage low : ℕ} {marks : List ℕ} (s : List ℕ) (at n : ℕ) (t : Item) → Declared marks → Good aall nall t → Due stage low → low ≤ item_name t
    → pieces_at s at ≡ item_pieces n t → ObjectRead aall nall stage marks s at t
unfolding next_stage
object_read {aall} {nall} {marks = marks} s at n t d (a_vector v) due_any le is =
    let p = is ∙ vector_pieces_lem n t v in
    record {
      laid = laid_seen false 2 marks s at (vector_pieces n t) p (laid_vector n t v d);
      valued = values_seen false aall nall s at (vector_pieces n t) p (valued_vector n t v);
      next = rw (vector_kind s at n t p) due_any;
    }
object_read s at n t d (a_vector v) (due_feature high) le is = absurd (let x = vector_name t v in omega arith)
object_read {aall} {nall} {marks = marks} s at n t d (a_feature f) due_any le is =
    let p = is ∙ feature_pieces_lem n t f in
    record {
      laid = laid_seen false 2 marks s at (feature_pieces n t) p (laid_feature 2 n t (inl refl) f d);
      valued = values_seen false aall nall s at (feature_pieces n t) p (valued_feature n t f);
      next = rw (feature_kind s at n t p) (due_feature {low = item_name t + 1} (let x = feature_name t f in omega arith));
    }
object_read {aall} {nall} {marks = marks} s at n t d (a_feature f) (due_feature high) le is =
    let p = is ∙ feature_pieces_lem n t f in
    record {
      laid = laid_seen false 3 marks s at (feature_pieces n t) p (laid_feature 3 n t (inr refl) f d);
      valued = values_seen false aall nall s at (feature_pieces n t) p (valued_feature n t f);
      next = rw (feature_kind s at n t p) (due_feature {low = item_name t + 1} (let x = feature_name t f in omega arith));
    }

-- ---- all of them
due_late : {stage low : ℕ} → Due stage low → (ltb stage 2 ≡ false) × (eqb stage 0 ≡ false)
due_late due_any = (refl, refl)
due_late (due_feature h) = (refl, refl)

pub objects_fine : {marks : List ℕ} (aall nall : ℕ) {low : ℕ} (n k at : ℕ) (s : List ℕ) (st : State) {ts : List Item} → Declared marks → Ordered aall nall low ts
    → Stand s at (items_pieces n ts)
    → Due st.stage low → st.aall ≡ aall → st.nall ≡ nall → records_fault (length ts) false marks s k at st ≡ fine
unfolding records_fault items_pieces passed_state
objects_fine aall nall n k at s st d ordered_none stands due a b = rw (due_late due).0
objects_fine {marks = marks} aall nall n k at s st d (ordered_more {t = t} {ts = ts} le good more) (stand_more here rest) due a b =
    let r = object_read {aall = aall} {nall = nall} {marks = marks} s at n t d good due le (fields_read (item_pieces n t) here) in
    let late = (due_late due).1 in
    let valued : value_fault false st.aall st.nall s at ≡ 0 = rw (a, b) r.valued in
    rw (r.laid, valued)
    (objects_fine aall nall (n + 1) (k + 1) (end_of s at) s (passed_state false s at st) d more rest r.next (rw late a) (rw late b))

pub objects_back : (aall nall : ℕ) {low : ℕ} (n at : ℕ) (s : List ℕ) {ts : List Item} → Ordered aall nall low ts → Stand s at (items_pieces n ts) → items_from (length ts) s at ≡ ts
unfolding items_from items_pieces
objects_back aall nall n at s ordered_none stands = refl
objects_back aall nall n at s (ordered_more {t = t} {ts = ts} le good more) (stand_more here rest) =
    rw (object_back t good s at n (fields_read (item_pieces n t) here), objects_back aall nall (n + 1) (end_of s at) s more rest)
