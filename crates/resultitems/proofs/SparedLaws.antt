-- What a modify leaves of an item as it was: its note where no control edits the pointers of an edge, its code where no control comes at all.
-- Assumes nothing.
use Prim.Native.Nat.{ℕ}
use mathlib.Core.Bool.{Bool, true, false, not, cond}
use mathlib.Core.List.{List, [], ◌∷◌}
use mathlib.Core.Logic.{⊎_elim}
use mathlib.Core.Option.{none}
use mathlib.Core.Option as maybe
use mathlib.Core.Path.{◌≡◌, refl, sym, ap, ◌∙◌}
use native.Mathlib.Omega.{arith}
use lib.ListN.{length}
use lib.Dec.{eqb}
use borrow.Author.Tests.{eq-eqb, ne_eqb}
use Rattle.std.specs.Prelude.{Option}
use Rattle.octets.proofs.Cases.{eq_or_ne}
use Rattle.table.specs.Table.{VRPT, SG2D, SG3D, FFPT, FSPT, VRPC, SGCC, FFPC, FSPC}
use Rattle.fieldvalue.specs.Value.{is_attributes}
use Rattle.items.specs.Identity.{rcnm_at, rank_of}
use Rattle.items.specs.Item.{Item, item_at, is_feature}
use Rattle.items.specs.Lists.{list_at}
use Rattle.items.specs.Premises.{LaidOut, Identified}
use Rattle.items.specs.Word.{rank_in, marked_offset}
use Rattle.edits.specs.Control.{Control}
use Rattle.edits.specs.Lists.{list_edited, control_of, lists_edited}
use Rattle.vectorshape.specs.Shape.{coordinates_good, isolated_good, connected_good, edge_good, class_good, vector_good, feature_good, shape_good, shape_code}
use Rattle.pointer.specs.Pointer.{pointer_code}
use Rattle.ring.specs.Ring.{ring_code}
use Rattle.itemrows.specs.Plain.{Stood}
use Rattle.topology.specs.Topology.{item_code}
use Rattle.quickvectors.specs.Quick.{FaultlessVector}
use Rattle.topology.specs.Notes.{note_for, noted_code, Ranked, SeenTold}
use Rattle.topology.specs.declared.seen.Seen.{Seen}
use Rattle.topology.proofs.SeenLaws.{seen_note}
use Rattle.merge.specs.declared.walk.At.{At}
use Rattle.changes.specs.Change.{Amendment, amendment_at, control_from, control_at, edit_of}
use Rattle.changes.specs.Updated.{amended}
use Rattle.resultitems.specs.Result.{object_of}
use Rattle.resultitems.specs.Able.{Able}
use Rattle.resultitems.specs.Spared.{Classed, ControlTold}
use Rattle.resultitems.proofs.ItemLaws.{changed_is, stood_ranked}

-- ---- a control that doesn't stand
no_bytes : (l : List ℕ) → length l ≡ 0 → control_from l ≡ none
unfolding control_from
no_bytes [] e = refl
no_bytes (b ∷ bs) e = absurd (omega arith)

absent : (s : List ℕ) (at k n : ℕ) → n ≡ length (list_at s at k) → n ≡ 0 → control_at s at k ≡ none
unfolding control_at
absent s at k n long zero = no_bytes (list_at s at k) (sym long ∙ zero)

none_left : (n : ℕ) → not (eqb n 0) ≡ false → n ≡ 0
none_left n h =
    ⊎_elim (λ (e : n ≡ 0). e) (λ (ne : n ≡ 0 → ⊥). absurd (let t : true ≡ false = rw (ne_eqb n 0 ne) at h in let z : ◌≡◌ {A = ℕ} 0 1 = cc in omega arith))
    (eq_or_ne n 0)

-- ---- whether the update's record has a control, by its class
pub control_there : (s : List ℕ) (at : ℕ) → ControlTold s at true
control_there s at = record {
  first = λ (t : true ≡ false). absurd (let z : ◌≡◌ {A = ℕ} 0 1 = cc in omega arith);
  second = λ (t : true ≡ false). absurd (let z : ◌≡◌ {A = ℕ} 0 1 = cc in omega arith);
}

module _ {s : List ℕ} {at rank : ℕ} (classed : Classed s at rank) (m n : ℕ) where
  pub control_feature : rank ≡ 3 → m ≡ length (list_at s at FFPC) → m ≡ 0 → n ≡ length (list_at s at FSPC) → ControlTold s at (not (eqb n 0))
  unfolding is_feature
  control_feature three first zero second =
      let is = eq-eqb (rcnm_at s at) 100 (classed.feature three) in
      record {
        first = λ (h : not (eqb n 0) ≡ false). rw is (absent s at FFPC m first zero);
        second = λ (h : not (eqb n 0) ≡ false). rw is (absent s at FSPC n second (none_left n h));
      }

  pub control_vector : (rank ≡ 3 → ⊥) → m ≡ length (list_at s at VRPC) → m ≡ 0 → n ≡ length (list_at s at SGCC) → ControlTold s at (not (eqb n 0))
  unfolding is_feature
  control_vector other first zero second =
      let is = ne_eqb (rcnm_at s at) 100 (classed.vector other) in
      record {
        first = λ (h : not (eqb n 0) ≡ false). rw is (absent s at VRPC m first zero);
        second = λ (h : not (eqb n 0) ≡ false). rw is (absent s at SGCC n second (none_left n h));
      }

-- ---- lists that stay
either : (b : Bool) → ◌≡◌ {A = maybe.Option Control} (cond b none none) none
either true = refl
either false = refl

module _ (a : Amendment) (t : Item) where
  module _ (no_first : a.first ≡ none) where
    vrpt_same : lists_edited (edit_of a) t.lists VRPT ≡ t.lists VRPT
    unfolding lists_edited list_edited control_of is_attributes
    vrpt_same = rw no_first

    ffpt_same : lists_edited (edit_of a) t.lists FFPT ≡ t.lists FFPT
    unfolding lists_edited list_edited control_of is_attributes
    ffpt_same = rw no_first

    ends_same : note_for (amended a t) ≡ note_for t
    unfolding note_for amended
    ends_same = rw vrpt_same

  module _ (no_second : a.second ≡ none) where
    fspt_same : lists_edited (edit_of a) t.lists FSPT ≡ t.lists FSPT
    unfolding lists_edited list_edited control_of is_attributes
    fspt_same = rw no_second

    sg2d_same : lists_edited (edit_of a) t.lists SG2D ≡ t.lists SG2D
    unfolding lists_edited list_edited control_of is_attributes
    sg2d_same = rw (no_second, either)

    sg3d_same : lists_edited (edit_of a) t.lists SG3D ≡ t.lists SG3D
    unfolding lists_edited list_edited control_of is_attributes
    sg3d_same = rw (no_second, either)

  -- no code looks at attributes
  code_same : (comf : ℕ) (place : ℕ → Option ℕ) (object : ℕ → Bool) (node : ℕ → ℕ → ℕ) → a.first ≡ none → a.second ≡ none
      → item_code comf place object node (amended a t) ≡ item_code comf place object node t
  unfolding item_code shape_code shape_good feature_good vector_good class_good isolated_good connected_good edge_good coordinates_good pointer_code ring_code amended
  code_same comf place object node no_first no_second =
      rw (vrpt_same no_first, ffpt_same no_first, fspt_same no_second, sg2d_same no_second, sg3d_same no_second)

  faultless_same : (comf : ℕ) (ws : List ℕ) → a.first ≡ none → a.second ≡ none → FaultlessVector comf ws t → FaultlessVector comf ws (amended a t)
  unfolding shape_code shape_good feature_good vector_good class_good isolated_good connected_good edge_good coordinates_good pointer_code ring_code amended
  faultless_same comf ws no_first no_second faultless = record {
    shape = rw (vrpt_same no_first, fspt_same no_second, sg2d_same no_second, sg3d_same no_second) faultless.shape;
    pointer = λ (object : ℕ → Bool). rw (vrpt_same no_first, ffpt_same no_first, fspt_same no_second) (faultless.pointer object);
    ring = λ (node : ℕ → ℕ → ℕ). rw (fspt_same no_second) (faultless.ring node);
  }

  -- nor has a note of anything but an edge to do with lists
  note_same : (rank_of t.rcnm ≡ 2 → ⊥) → note_for (amended a t) ≡ note_for t
  unfolding note_for amended
  note_same ne = rw (ne_eqb (rank_of t.rcnm) 2 ne)

-- the record that was built has the class's rank
pub built_ranked : {cell update s : List ℕ} {at : ℕ} {p : At} (rank : ℕ) → Able cell update p → Stood s at (object_of cell update p) → rank ≡ rank_in p.word → Ranked s at rank
built_ranked rank able stood e = rw e (stood_ranked able stood)

said : (x : Bool) → not x ≡ true → x ≡ false
said false h = refl
said true h = sym h

-- ---- the item that an update modifies
feature_rank : (rcnm : ℕ) → rcnm ≡ 100 → rank_of rcnm ≡ 3
unfolding rank_of
feature_rank rcnm e = rw e

module _ {cell update : List ℕ} {p : At} (able : Able cell update p) (one : p.change ≡ 1) where
  class_is : (object_of cell update p).rcnm ≡ rcnm_at cell (marked_offset p.word)
  unfolding amended
  class_is = ap (λ (t : Item). t.rcnm) (changed_is able one)

  rank_is : rank_in p.word ≡ rank_of (rcnm_at cell (marked_offset p.word))
  rank_is = able.worded.rank ∙ ap rank_of class_is

  both_class : rcnm_at update (marked_offset p.by) ≡ rcnm_at cell (marked_offset p.word)
  both_class = (able.changed one).edit.paired.same

  pub changed_laid : LaidOut cell (marked_offset p.word)
  changed_laid = (able.changed one).edit.paired.sides.old

  pub changed_known : Identified cell (marked_offset p.word)
  changed_known = (able.changed one).edit.paired.known

  by_laid : LaidOut update (marked_offset p.by)
  by_laid = (able.changed one).edit.paired.sides.new

  pub changed_ranked : (rank : ℕ) → rank ≡ rank_in p.word → Ranked cell (marked_offset p.word) rank
  changed_ranked rank e = record { laid = changed_laid; known = changed_known; is = e ∙ rank_is }

  pub changed_classed : (rank : ℕ) → rank ≡ rank_in p.word → Classed update (marked_offset p.by) rank
  changed_classed rank is = record {
    laid = by_laid;
    feature = λ (e : rank ≡ 3). both_class ∙ sym class_is ∙ able.worded.class (sym able.worded.rank ∙ sym is ∙ e);
    vector = λ (ne : rank ≡ 3 → ⊥) (e : rcnm_at update (marked_offset p.by) ≡ 100).
        ne (is ∙ rank_is ∙ feature_rank (rcnm_at cell (marked_offset p.word)) (sym both_class ∙ e));
  }

  -- of a feature its FOID alone
  pub seen_foid : (comf : ℕ) (ws : List ℕ) (rank : ℕ) (r : Seen) → rank ≡ rank_in p.word → rank ≡ 3 → r.note ≡ note_for (item_at cell (marked_offset p.word))
      → r.clear ≡ false → SeenTold comf ws (object_of cell update p) r
  seen_foid comf ws rank r is three told unseen =
      seen_note comf ws (object_of cell update p) r
      (told
      ∙ sym (note_same (amendment_at update (marked_offset p.by)) (item_at cell (marked_offset p.word))
      (λ (e : rank_of (rcnm_at cell (marked_offset p.word)) ≡ 2). omega (arith, is, rank_is)))
      ∙ sym (ap note_for (changed_is able one)))
      unseen

  pub seen_kept : (comf : ℕ) (ws : List ℕ) (b : Bool) (r : Seen) → ControlTold update (marked_offset p.by) b → not b ≡ true
      → SeenTold comf ws (item_at cell (marked_offset p.word)) r → SeenTold comf ws (object_of cell update p) r
  seen_kept comf ws b r none_told off told =
      let no : b ≡ false = said b off in
      let a = amendment_at update (marked_offset p.by) in
      let t = item_at cell (marked_offset p.word) in
      let first = none_told.first no in
      let second = none_told.second no in
      rw (changed_is able one) (record {
        note = told.note ∙ sym (ends_same a t first);
        clear = λ (e : r.clear ≡ true). faultless_same a t comf ws first second (told.clear e);
      })

  pub code_kept : (comf : ℕ) (work : List ℕ) (m v r : ℕ) (b : Bool) → ControlTold update (marked_offset p.by) b → not b ≡ true
      → r ≡ noted_code comf work m v (item_at cell (marked_offset p.word)) → r ≡ noted_code comf work m v (object_of cell update p)
  code_kept comf work m v r b none_told off told =
      let no : b ≡ false = said b off in
      told
      ∙ sym (code_same (amendment_at update (marked_offset p.by)) (item_at cell (marked_offset p.word)) comf _ _ _ (none_told.first no) (none_told.second no))
      ∙ sym (ap (noted_code comf work m v) (changed_is able one))
