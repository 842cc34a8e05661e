-- A record whose fields are those of a vector or a feature is laid out and identified, wherever it stands: in a file, or in a work area where it
-- may be longer than its leader can say. Assumes nothing.
use Prim.Native.Nat.{ℕ, zero, suc, ◌≤◌, ◌<◌}
use mathlib.Core.Bool.{Bool, true, false, ◌||◌}
use mathlib.Core.List.{List, [], ◌∷◌}
use mathlib.Core.Logic.{◌⊎◌, inl, inr, ⊎_elim}
use mathlib.Core.Path.{◌≡◌, refl, ap, ◌∙◌}
use native.Mathlib.Omega.{arith}
use lib.ListN.{length, get_or, length-append}
use lib.Dec.{eqb}
use borrow.Author.Tests.{eqb-true}
use Rattle.octets.proofs.Tests.{both, all3, or_cases}
use Rattle.iso8211.specs.Field.{count_at, FieldsIn}
use Rattle.table.specs.Table.{table, row_of, tag_of, kind_of, among, as_number, first, VRID, FRID, FOID}
use Rattle.table.specs.Text.{bytes}
use Rattle.values.specs.Vrid.{is_vector}
use Rattle.layout.specs.Layout.{placed, filled, start}
use Rattle.layout.specs.Record.{kind_at}
use Rattle.items.specs.Premises.{LaidOut, Identified}
use Rattle.items.specs.Identity.{rcnm_at}
use Rattle.items.proofs.Promise.{featured, vector_identified, feature_identified}
use Rattle.records.specs.Pieces.{Piece}
use Rattle.records.specs.Premises.{piece_of, pieces_at}
use Rattle.itemfields.specs.Views.{kind_in, piece_laid, laid_in}
use Rattle.items.specs.Item.{Item}
use Rattle.itemfields.specs.Fields.{piece, list_piece, list_pieces, vector_kinds, feature_kinds, vector_pieces, feature_pieces}
use Rattle.itemfields.specs.Good.{Vector, Feature}
use Rattle.itemfields.proofs.ViewLaws.{count_seen, piece_seen, tag_seen}
use Rattle.itemfields.proofs.LaidLaws.{Declared}
use Rattle.itemfields.proofs.FieldsLaws.{laid_vector, laid_feature, vector_back, feature_back}

-- ---- laid out
-- each field of those that are laid out is filled by its subfields
filled_each : (update : Bool) (stage : ℕ) (marks : List ℕ) (prev : ℕ) (fs : List Piece) (j : ℕ) (d : Piece) → laid_in update stage marks prev fs ≡ true → j < length fs
    → filled (kind_in (get_or fs j d)) (get_or fs j d).content ≡ true
unfolding laid_in piece_laid
filled_each update stage marks prev [] j d laid h = absurd (omega arith)
filled_each update stage marks prev (f ∷ fs) zero d laid h =
    let p = both (piece_laid update stage marks prev f) (laid_in update stage marks (kind_in f) fs) laid in
    (all3 (placed update stage prev (kind_in f)) (eqb (get_or marks (kind_in f) 0) 1) (filled (kind_in f) f.content) p.0).2
filled_each update stage marks prev (f ∷ fs) (suc j) d laid h =
    let p = both (piece_laid update stage marks prev f) (laid_in update stage marks (kind_in f) fs) laid in
    filled_each update stage marks (kind_in f) fs j d p.1 (omega arith)

pub laid_pieces : (update : Bool) (stage : ℕ) (marks : List ℕ) {s : List ℕ} {at : ℕ} (fs : List Piece) → FieldsIn s at → pieces_at s at ≡ fs → 2 ≤ length fs
    → laid_in update stage marks start fs ≡ true → LaidOut s at
unfolding piece_of
laid_pieces update stage marks {s} {at} fs inside is two laid = record {
  inside = inside;
  two = omega (arith, count_seen s at fs is);
  fills = λ (j : ℕ) (h : j < count_at s at).
      let here : j < length fs = omega (arith, count_seen s at fs is) in
      ap (λ (f : Piece). filled (kind_in f) f.content) (piece_seen s at fs j (piece first []) is here)
      ∙ filled_each update stage marks start fs j (piece first []) laid here;
}

-- ---- few fields
list_one : (k : ℕ) (es : List (List ℕ)) → length (list_piece k es) ≤ 1
unfolding list_piece
list_one k [] = omega arith
list_one k (e ∷ es) = omega arith

lists_few : (ks : List ℕ) (ls : ℕ → List (List ℕ)) → length (list_pieces ks ls) ≤ length ks
unfolding list_pieces
lists_few [] ls = omega arith
lists_few (k ∷ ks) ls = rw (length-append (list_piece k (ls k))) (omega (arith, list_one k (ls k), lists_few ks ls))

pub vector_few : (n : ℕ) (t : Item) → (2 ≤ length (vector_pieces n t)) × (length (vector_pieces n t) ≤ 6)
unfolding vector_pieces
vector_few n t = (omega arith, omega (arith, lists_few vector_kinds t.lists))

pub feature_few : (n : ℕ) (t : Item) → (3 ≤ length (feature_pieces n t)) × (length (feature_pieces n t) ≤ 7)
unfolding feature_pieces
feature_few n t = (omega arith, omega (arith, lists_few feature_kinds t.lists))

-- ---- identified
class_cases : (x : ℕ) → is_vector x ≡ true → (x ≡ 110) ⊎ ((x ≡ 120) ⊎ (x ≡ 130))
unfolding is_vector
class_cases x h =
    ⊎_elim (λ (a : eqb x 110 ≡ true). inl (eqb-true x 110 a))
    (λ (a : (eqb x 120 || eqb x 130) ≡ true).
    inr (⊎_elim (λ (b : eqb x 120 ≡ true). inl (eqb-true x 120 b)) (λ (b : eqb x 130 ≡ true). inr (eqb-true x 130 b)) (or_cases _ _ a)))
    (or_cases _ _ h)

module _ (s : List ℕ) (at n : ℕ) (t : Item) {aall nall : ℕ} (inside : FieldsIn s at) where
  module _ (v : Vector false aall nall t) (is : pieces_at s at ≡ vector_pieces n t) where
    pub vector_laid : {marks : List ℕ} → Declared marks → LaidOut s at
    vector_laid {marks} d = laid_pieces false 2 marks (vector_pieces n t) inside is (vector_few n t).0 (laid_vector n t v d)

    vector_kind : kind_at s at 1 ≡ VRID
    unfolding vector_pieces kind_of among tag_of row_of table as_number bytes
    vector_kind = rw (tag_seen s at (vector_pieces n t) 1 (piece first []) is (omega arith))

    pub vector_known : {marks : List ℕ} → Declared marks → Identified s at
    vector_known d = vector_identified s at (vector_laid d) vector_kind (class_cases (rcnm_at s at) (ap (λ (o : Item). is_vector o.rcnm) (vector_back t v s at n is) ∙ v.class))

  module _ (f : Feature false aall nall t) (is : pieces_at s at ≡ feature_pieces n t) where
    pub feature_laid : {marks : List ℕ} → Declared marks → LaidOut s at
    feature_laid {marks} d = laid_pieces false 2 marks (feature_pieces n t) inside is (omega (arith, (feature_few n t).0)) (laid_feature 2 n t (inl refl) f d)

    feature_kind : kind_at s at 1 ≡ FRID
    unfolding feature_pieces kind_of among tag_of row_of table as_number bytes
    feature_kind = rw (tag_seen s at (feature_pieces n t) 1 (piece first []) is (omega arith))

    foid_kind : kind_at s at 2 ≡ FOID
    unfolding feature_pieces kind_of among tag_of row_of table as_number bytes
    foid_kind = rw (tag_seen s at (feature_pieces n t) 2 (piece first []) is (omega arith))

    pub feature_known : {marks : List ℕ} → Declared marks → Identified s at
    feature_known d =
        let laid = feature_laid d in
        let third : 3 ≤ count_at s at = omega (arith, count_seen s at (feature_pieces n t) is, (feature_few n t).0) in
        feature_identified s at laid (featured s at laid feature_kind third foid_kind) (ap (λ (o : Item). o.rcnm) (feature_back t f s at n is) ∙ f.class)
