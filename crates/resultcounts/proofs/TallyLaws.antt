-- The counts along the walk are those of the objects. Assumes nothing.
use Prim.Native.Nat.{ℕ, ◌+◌, ◌≤◌}
use mathlib.Core.Bool.{true, false}
use mathlib.Core.List.{List, ◌∷◌}
use mathlib.Core.Logic.{⊎_elim}
use mathlib.Core.Path.{◌≡◌, sym, ap, ◌∙◌}
use native.Mathlib.Omega.{arith}
use lib.Dec.{eqb}
use borrow.Author.Tests.{eqb-true, eq-eqb, ne_eqb}
use Rattle.octets.proofs.Cases.{true_or_false, eq_or_ne}
use Rattle.items.specs.Identity.{rcnm_at, objl_at, rank_of}
use Rattle.items.specs.Premises.{LaidOut, Featured, Identified}
use Rattle.counted.specs.Tallies.{with_vector, with_feature, with_record, AtMost}
use Rattle.counted.specs.declared.counts.Tally.{Tally}
use Rattle.counted.proofs.CountsLaws.{tally_same}
use Rattle.items.specs.Item.{is_feature, of_feature, Item, item_at}
use Rattle.held.specs.Held.{count_in, of_name, of_class, tally_in}
use Rattle.held.proofs.ReadsBack.{tally_most}
use Rattle.itemrows.specs.Plain.{Stood}
use Rattle.topology.specs.Notes.{Ranked}
use Rattle.items.specs.Word.{rank_in, mark_of, marked_offset}
use Rattle.reissue.specs.Tally.{class_of, with_objects}
use Rattle.reissue.proofs.TallyLaws.{class_ranks, objects_none}
use Rattle.merge.specs.Places.{Headed}
use Rattle.merge.specs.declared.walk.At.{At}
use Rattle.changes.specs.Updated.{amended}
use Rattle.resultitems.specs.Result.{object_by, changed_by, object_of}
use Rattle.resultitems.specs.Able.{Able}
use Rattle.resultitems.specs.Items.{objects_from, objects_in}
use Rattle.resultcounts.specs.Counts.{with_object}
use Rattle.resultitems.proofs.ItemLaws.{new_stood, kept_stood}
use Rattle.resultitems.proofs.AllLaws.{peel, all_from, gone, objects_length}

-- ---- the rank tells the class of a record
module _ {s : List ℕ} {at rank : ℕ} (so : Ranked s at rank) where
  pub ranked_feature : rank ≡ 3 → Featured s at
  ranked_feature e = so.known.feature ((class_ranks (rcnm_at s at) so.known.class).0 (sym so.is ∙ e))

  pub with_feature_lem : (t u : Tally) (objl : ℕ) → rank ≡ 3 → objl ≡ objl_at s at → u ≡ with_feature t objl → u ≡ with_record t s at
  unfolding with_record
  with_feature_lem t u objl e is told = told ∙ rw (eq-eqb (rcnm_at s at) 100 ((class_ranks (rcnm_at s at) so.known.class).0 (sym so.is ∙ e)), is)

  pub with_vector_lem : (t u : Tally) (class : ℕ) → (rank ≡ 3 → ⊥) → class ≡ class_of rank → u ≡ with_vector t class → u ≡ with_record t s at
  unfolding with_record
  with_vector_lem t u class ne is told =
      let p = (class_ranks (rcnm_at s at) so.known.class).1 (λ (e : rank_of (rcnm_at s at) ≡ 3). ne (so.is ∙ e)) in
      told ∙ rw (ne_eqb (rcnm_at s at) 100 p.1, is, so.is, p.0)

-- ---- an item counts as its record, changed or not
record_object : (t : Tally) (s : List ℕ) (at : ℕ) → with_record t s at ≡ with_object t (item_at s at)
unfolding with_record with_object of_feature is_feature
record_object t s at =
    ⊎_elim (λ (h : eqb (rcnm_at s at) 100 ≡ true). rw h) (λ (h : eqb (rcnm_at s at) 100 ≡ false). rw h) (true_or_false (eqb (rcnm_at s at) 100))

-- the record at `at` is that of t, or of what t was before a change
record Counts (s : List ℕ) (at : ℕ) (t : Item) : Type 0 where
  pub laid : LaidOut s at
  pub known : Identified s at
  pub class : rcnm_at s at ≡ t.rcnm
  pub count : (u : Tally) → with_object u (item_at s at) ≡ with_object u t

stood_counts : {s : List ℕ} {at : ℕ} {t : Item} → Stood s at t → Counts s at t
stood_counts {t = t} so = record { laid = so.able.laid; known = so.able.known; class = ap (λ (o : Item). o.rcnm) so.same; count = λ u. ap (with_object u) so.same }

change_alone : (n : ℕ) → n ≡ 1 → eqb n 0 ≡ false
change_alone n e = ne_eqb n 0 (omega arith)

module _ {cell update : List ℕ} {a : At} (able : Able cell update a) where
  changed_counts : a.change ≡ 1 → Counts cell (marked_offset a.word) (object_of cell update a)
  unfolding object_by changed_by amended with_object
  changed_counts e =
      let held = (able.changed e).held in
      let no : eqb (mark_of a.word) 1 ≡ false = ne_eqb (mark_of a.word) 1 (omega arith) in
      let pair = (able.changed e).edit.paired in
      record {
        laid = pair.sides.old;
        known = pair.known;
        class = rw (change_alone a.change e, no);
        count = λ u. rw (change_alone a.change e, no);
      }

  module _ (t u : Tally) where
    told_by : {s : List ℕ} → Counts s (marked_offset a.word) (object_of cell update a) → u ≡ with_record t s (marked_offset a.word) → u ≡ with_object t (object_of cell update a)
    told_by {s} so told = told ∙ record_object t s (marked_offset a.word) ∙ so.count t

  ranked_by : {s : List ℕ} → Counts s (marked_offset a.word) (object_of cell update a) → Ranked s (marked_offset a.word) (rank_in a.word)
  ranked_by so = record { laid = so.laid; known = so.known; is = able.worded.rank ∙ ap rank_of (sym so.class) }

  module _ (new : mark_of a.word ≡ 1) where
    alone : a.change ≡ 1 → ⊥
    alone e = let held = (able.changed e).held in omega arith

    new_counts : Counts update (marked_offset a.word) (object_of cell update a)
    new_counts = stood_counts (new_stood able alone new)

    pub ranked_new : Ranked update (marked_offset a.word) (rank_in a.word)
    ranked_new = ranked_by new_counts

    pub counted_new : (t u : Tally) → u ≡ with_record t update (marked_offset a.word) → u ≡ with_object t (object_of cell update a)
    counted_new t u told = told_by t u new_counts told

  module _ (kept : mark_of a.word ≡ 1 → ⊥) where
    kept_counts : Counts cell (marked_offset a.word) (object_of cell update a)
    kept_counts = ⊎_elim (λ (e : a.change ≡ 1). changed_counts e) (λ (ne : a.change ≡ 1 → ⊥). stood_counts (kept_stood able ne kept)) (eq_or_ne a.change 1)

    pub ranked_kept : Ranked cell (marked_offset a.word) (rank_in a.word)
    ranked_kept = ranked_by kept_counts

    pub counted_kept : (t u : Tally) → u ≡ with_record t cell (marked_offset a.word) → u ≡ with_object t (object_of cell update a)
    counted_kept t u told = told_by t u kept_counts told

-- ---- one object more
objects_next : (t : Tally) (o : Item) (os : List Item) → with_objects t (o ∷ os) ≡ with_objects (with_object t o) os
unfolding with_objects with_object with_vector with_feature count_in of_name of_class
objects_next t o os =
    ⊎_elim (λ (h : eqb o.rcnm 100 ≡ true).
    let e : o.rcnm ≡ 100 = eqb-true _ _ h in
    rw e (tally_same (omega arith) (omega arith) (omega arith) (omega arith) (omega arith) (omega arith)))
    (λ (h : eqb o.rcnm 100 ≡ false).
    rw h (tally_same (omega arith) (omega arith) (omega arith) (omega arith) (omega arith) (omega arith)))
    (true_or_false (eqb o.rcnm 100))

-- ---- along the walk
tally_all : (os : List Item) → tally_in os ≡ with_objects (record { meta = 0; geo = 0; collection = 0; isolated = 0; connected = 0; edges = 0 }) os
unfolding tally_in with_objects
tally_all os = tally_same (omega arith) (omega arith) (omega arith) (omega arith) (omega arith) (omega arith)

module _ (cell update work : List ℕ) (end count edits : ℕ) where
  pub tally_start : tally_in (objects_in cell update work end count edits)
      ≡ with_objects (record { meta = 0; geo = 0; collection = 0; isolated = 0; connected = 0; edges = 0 }) (objects_from cell update work end count edits 0 0)
  tally_start = rw (all_from cell update work end count edits) (tally_all (objects_in cell update work end count edits))

  pub tally_end : (i j : ℕ) (all t : Tally) → count ≤ i → all ≡ with_objects t (objects_from cell update work end count edits i j) → t ≡ all
  tally_end i j all t past so =
      sym (so ∙ ap (with_objects t) (gone cell update work end count edits i j past) ∙ objects_none t)

  -- what is counted is no more than the items
  pub tally_few : (t : Tally) (ts : List Item) → count ≤ 65536 → tally_in (objects_in cell update work end count edits) ≡ with_objects t ts → AtMost 5242880 t
  unfolding with_objects
  tally_few t ts few so =
      let n = objects_length cell update work end count edits in
      let most = tally_most (objects_in cell update work end count edits) (omega arith) in
      record {
        meta_few = let x = most.meta_few in omega (arith, ap (λ (u : Tally). u.meta) so);
        geo_few = let x = most.geo_few in omega (arith, ap (λ (u : Tally). u.geo) so);
        collection_few = let x = most.collection_few in omega (arith, ap (λ (u : Tally). u.collection) so);
        isolated_few = let x = most.isolated_few in omega (arith, ap (λ (u : Tally). u.isolated) so);
        connected_few = let x = most.connected_few in omega (arith, ap (λ (u : Tally). u.connected) so);
        edges_few = let x = most.edges_few in omega (arith, ap (λ (u : Tally). u.edges) so);
      }

pub tally_on : {work : List ℕ} {end count edits i j : ℕ} {a : At} (cell update : List ℕ) (all t u : Tally) → Headed work end count edits i j a
    → all ≡ with_objects t (objects_from cell update work end count edits i j) → u ≡ with_object t (object_of cell update a)
    → all ≡ with_objects u (objects_from cell update work end count edits (i + 1) (j + a.change))
tally_on {work} {end} {count} {edits} {i} {j} {a} cell update all t u head so told =
    let ts = objects_from cell update work end count edits (i + 1) (j + a.change) in
    so ∙ ap (with_objects t) (peel head cell update) ∙ objects_next t (object_of cell update a) ts ∙ ap (λ (x : Tally). with_objects x ts) (sym told)
