-- The fields of a record that was read, joined: what they say of each list as a whole. Assumes nothing.
use Prim.Native.Nat.{ℕ, ◌≤◌}
use mathlib.Core.Bool.{Bool, true, false, ◌&&◌}
use mathlib.Core.List.{List, [], ◌∷◌}
use mathlib.Core.Logic.{◌⊎◌, ⊎_elim}
use mathlib.Core.Path.{◌≡◌, refl, sym, ◌∙◌}
use native.Mathlib.Omega.{arith}
use lib.ListN.{get_or}
use lib.Dec.{eqb}
use borrow.Author.Tests.{eq-eqb, ne_eqb, eqb-true}
use Rattle.octets.proofs.Cases.{true_or_false, eq_or_ne}
use Rattle.octets.proofs.Tests.{both}
use Rattle.entries.specs.Entries.{entries_of}
use Rattle.entries.specs.Premises.{Whole}
use Rattle.entries.specs.Rules.{through}
use Rattle.entries.proofs.EntriesLaws.{entries_append, entries_nil}
use Rattle.table.specs.Table.{row_of, table, first, FFPT}
use Rattle.layout.specs.Layout.{placed, follows, filled, shape_of, start}
use Rattle.layout.proofs.KindLaws.{Followed, followed}
use Rattle.layout.proofs.Promise.{full_list}
use Rattle.attributes.specs.Attributes.{attribute, pointer, attributes_fault, ffpt_fault, met_label, met_after}
use Rattle.fieldvalue.specs.Value.{is_attributes, is_high, field_fault, seen_before, seen_after}
use Rattle.records.specs.Pieces.{Piece}
use Rattle.itemfields.specs.Views.{kind_in, piece_laid, laid_in, valued_in, list_in, attributes_good, pointers_good, list_good}
use Rattle.itemfields.proofs.KindLaws.{ListKind}
use Rattle.itemfields.proofs.LaidLaws.{field_list, attributes_told, attributes_append, pointers_told, pointers_append}

-- ---- one field
pub record Step (update : Bool) (stage : ℕ) (marks : List ℕ) (prev : ℕ) (f : Piece) (fs : List Piece) : Type 0 where
  pub placing : follows update prev (kind_in f) ≡ true
  pub after : Followed update prev (kind_in f)
  pub full : filled (kind_in f) f.content ≡ true
  pub more : laid_in update stage marks (kind_in f) fs ≡ true

not_nine : (a k : ℕ) → (row_of a).group ≡ 9 → (row_of k).group ≤ 3 → eqb k a ≡ false
not_nine a k nine low = ne_eqb k a (λ e. let g : (row_of k).group ≡ 9 = rw e nine in omega arith)

nine_first : (row_of first).group ≡ 9
unfolding row_of table
nine_first = refl

nine_start : (row_of start).group ≡ 9
unfolding row_of table
nine_start = refl

pub step : (update : Bool) (stage : ℕ) (marks : List ℕ) (prev : ℕ) (f : Piece) (fs : List Piece) → (row_of prev).group ≤ 3 → laid_in update stage marks prev (f ∷ fs) ≡ true
    → Step update stage marks prev f fs
unfolding laid_in piece_laid placed
step update stage marks prev f fs low h =
    let k = kind_in f in
    let p = both (piece_laid update stage marks prev f) (laid_in update stage marks k fs) h in
    let q = both (placed update stage prev k) (eqb (get_or marks k 0) 1 && filled k f.content) p.0 in
    let r = both (eqb (get_or marks k 0) 1) (filled k f.content) q.1 in
    let placing : follows update prev k ≡ true = rw (not_nine start prev nine_start low, not_nine first prev nine_first low) at q.0 in
    record {
      placing = placing;
      after = followed update prev k placing;
      full = r.1;
      more = p.1;
    }

-- ---- where a kind can come
pub record Reach (prev k : ℕ) : Type 0 where
  pub group : (row_of prev).group ≡ (row_of k).group
  pub order : (row_of prev).order ≤ (row_of k).order
  pub again : (row_of prev).order ≡ (row_of k).order → prev ≡ k

reach : {update : Bool} {a b c : ℕ} → Followed update a b → Reach b c → Reach a c
reach {a = a} {b = b} {c = c} f r =
    let x = f.order in
    let y = r.order in
    record {
      group = f.group ∙ r.group;
      order = omega arith;
      again = λ e. (f.again (omega arith)).0 ∙ r.again (omega arith);
    }

reach_one : {update : Bool} {a b : ℕ} → Followed update a b → Reach a b
reach_one f = record { group = f.group; order = f.order; again = λ e. (f.again e).0 }

pub absent : (update : Bool) (stage : ℕ) (marks : List ℕ) (prev k : ℕ) (fs : List Piece) → (row_of prev).group ≤ 3 → laid_in update stage marks prev fs ≡ true → (Reach prev k
    → ⊥) → list_in k fs ≡ []
unfolding list_in
absent update stage marks prev k [] low h far = refl
absent update stage marks prev k (f ∷ fs) low h far =
    let st = step update stage marks prev f fs low h in
    let g = st.after.group in
    rw (ne_eqb (kind_in f) k (λ e. far (rw e at (reach_one st.after))))
    (absent update stage marks (kind_in f) k fs (omega arith) st.more (λ r. far (reach st.after r)))

-- ---- attributes
seen_same : (k : ℕ) (seen : List ℕ) → seen_before k k seen ≡ seen
unfolding seen_before
seen_same k seen = rw (eq-eqb k k refl)

seen_other : (prev k : ℕ) (seen : List ℕ) → (prev ≡ k → ⊥) → seen_before prev k seen ≡ []
unfolding seen_before
seen_other prev k seen ne = rw (ne_eqb prev k ne)

good_none : (update high : Bool) (seen : List ℕ) → attributes_good update high seen (entries_of attribute []) ≡ true
unfolding attributes_good
good_none update high seen = rw (entries_nil attribute)

-- behind another kind, a kind that came before does not come again
no_return : {update : Bool} {prev j k : ℕ} → Followed update prev j → prev ≡ k → (j ≡ k → ⊥) → Reach j k → ⊥
no_return {update} {prev} {j} {k} f same ne r =
    let a : (row_of k).order ≤ (row_of j).order = rw same at f.order in
    let b = r.order in
    ne (r.again (omega arith))

attributes_join : (update : Bool) (stage : ℕ) (marks : List ℕ) (aall nall prev k : ℕ) (seen : List ℕ) (fs : List Piece) → ListKind k → is_attributes k ≡ true → (row_of prev).group ≤ 3
    → laid_in update stage marks prev fs ≡ true → valued_in update aall nall prev seen fs ≡ true
    → attributes_good update (is_high aall nall k) (seen_before prev k seen) (entries_of attribute (list_in k fs)) ≡ true
unfolding list_in valued_in seen_after met_after attributes_fault
attributes_join update stage marks aall nall prev k seen [] kind is low laid valued = good_none update (is_high aall nall k) (seen_before prev k seen)
attributes_join update stage marks aall nall prev k seen (f ∷ fs) kind is low laid valued =
    let high = is_high aall nall k in
    let j = kind_in f in
    let c = f.content in
    let st = step update stage marks prev f fs low laid in
    let group = st.after.group in
    let p = both (eqb (field_fault update aall nall j (seen_before prev j seen) c) 0) (valued_in update aall nall j (seen_after j (seen_before prev j seen) c) fs) valued in
    let rest = attributes_join update stage marks aall nall j k (seen_after j (seen_before prev j seen) c) fs kind is (omega arith) st.more p.1 in
    ⊎_elim (λ (same : j ≡ k).
    let s0 = seen_before prev k seen in
    let none : field_fault update aall nall k s0 c ≡ 0 = rw same at (eqb-true (field_fault update aall nall j (seen_before prev j seen) c) 0 p.0) in
    let fault : attributes_fault update high s0 c ≡ 0 = sym (field_list update aall nall s0 c kind ∙ rw is) ∙ none in
    let whole : Whole attribute c = rw (kind.attributes is) at (full_list k c kind.list (rw same at st.full)).0 in
    let more : attributes_good update high (through met_label s0 (entries_of attribute c)) (entries_of attribute (list_in k fs)) ≡ true = rw (same, seen_same, is) at rest in
    rw (
      eq-eqb j k same,
      entries_append (list_in k fs) whole,
      attributes_append update high s0 (entries_of attribute c) (entries_of attribute (list_in k fs)),
      attributes_told update high s0 0 (entries_of attribute c) fault,
    ) more)
    (λ (other : j ≡ k → ⊥).
    rw (ne_eqb j k other)
    (⊎_elim (λ (back : prev ≡ k).
    rw (absent update stage marks j k fs (omega arith) st.more (no_return st.after back other)) (good_none update high (seen_before prev k seen)))
    (λ (ne : prev ≡ k → ⊥). rw (seen_other prev k seen ne) (rw (seen_other j k (seen_after j (seen_before prev j seen) c) other) at rest)) (eq_or_ne prev k)))
    (eq_or_ne j k)

-- ---- pointers
pointers_join : (update : Bool) (stage : ℕ) (marks : List ℕ) (aall nall prev k : ℕ) (seen : List ℕ) (fs : List Piece) → ListKind k → is_attributes k ≡ false
    → eqb k FFPT ≡ true → (row_of prev).group ≤ 3
    → laid_in update stage marks prev fs ≡ true → valued_in update aall nall prev seen fs ≡ true → pointers_good (entries_of pointer (list_in k fs)) ≡ true
unfolding list_in valued_in ffpt_fault pointers_good
pointers_join update stage marks aall nall prev k seen [] kind plain is low laid valued = rw (entries_nil pointer)
pointers_join update stage marks aall nall prev k seen (f ∷ fs) kind plain is low laid valued =
    let j = kind_in f in
    let c = f.content in
    let st = step update stage marks prev f fs low laid in
    let group = st.after.group in
    let p = both (eqb (field_fault update aall nall j (seen_before prev j seen) c) 0) (valued_in update aall nall j (seen_after j (seen_before prev j seen) c) fs) valued in
    let rest = pointers_join update stage marks aall nall j k (seen_after j (seen_before prev j seen) c) fs kind plain is (omega arith) st.more p.1 in
    ⊎_elim (λ (same : j ≡ k).
    let s0 = seen_before prev k seen in
    let none : field_fault update aall nall k s0 c ≡ 0 = rw same at (eqb-true (field_fault update aall nall j (seen_before prev j seen) c) 0 p.0) in
    let fault : ffpt_fault c ≡ 0 = sym (field_list update aall nall s0 c kind ∙ rw (plain, is)) ∙ none in
    let whole : Whole pointer c = rw (kind.pointers is) at (full_list k c kind.list (rw same at st.full)).0 in
    rw (eq-eqb j k same, entries_append (list_in k fs) whole, pointers_append (entries_of pointer c) (entries_of pointer (list_in k fs)), pointers_told 0 (entries_of pointer c) fault)
    rest)
    (λ (other : j ≡ k → ⊥). rw (ne_eqb j k other) rest)
    (eq_or_ne j k)

-- ---- any list
pub list_join : (update : Bool) (stage : ℕ) (marks : List ℕ) (aall nall prev k : ℕ) (seen : List ℕ) (fs : List Piece) → ListKind k → (prev ≡ k → ⊥) → (row_of prev).group ≤ 3
    → laid_in update stage marks prev fs ≡ true → valued_in update aall nall prev seen fs ≡ true → list_good update aall nall k (entries_of (shape_of k) (list_in k fs)) ≡ true
unfolding list_good
list_join update stage marks aall nall prev k seen fs kind ne low laid valued =
    ⊎_elim (λ (a : is_attributes k ≡ true).
    rw (a, kind.attributes a) (rw (seen_other prev k seen ne) at (attributes_join update stage marks aall nall prev k seen fs kind a low laid valued)))
    (λ (a : is_attributes k ≡ false).
    ⊎_elim (λ (f : eqb k FFPT ≡ true). rw (a, f, kind.pointers f) (pointers_join update stage marks aall nall prev k seen fs kind a f low laid valued))
    (λ (f : eqb k FFPT ≡ false). rw (a, f)) (true_or_false (eqb k FFPT)))
    (true_or_false (is_attributes k))
