-- Laws of the walk over the fields: a field brings its bytes to the list of its tag, and none to the others. Assumes nothing.
use Prim.Native.Nat.{ℕ, ◌+◌, ◌-◌, ◌≤◌, ◌<◌}
use mathlib.Core.Bool.{true, false}
use mathlib.Core.List.{List, ◌++◌, append-nil}
use mathlib.Core.Logic.{⊎_elim}
use mathlib.Core.Path.{◌≡◌, refl, sym, ap, ◌∙◌}
use native.Mathlib.Omega.{arith}
use lib.ListN.{length, take, drop}
use lib.Dec.{eqb}
use borrow.Author.Tests.{eq-eqb, ne_eqb, eqb-true}
use Rattle.octets.specs.Number.{byte_at}
use Rattle.octets.specs.Premises.{Reads}
use Rattle.octets.proofs.Cases.{eq_or_ne}
use Rattle.iso8211.specs.Leader.{base_at}
use Rattle.iso8211.specs.Field.{count_at, field_at}
use Rattle.iso8211.specs.Premises.{HeadOf, Due}
use Rattle.iso8211.specs.declared.field.Head.{Head}
use Rattle.iso8211.specs.declared.field.Field.{Field}
use Rattle.table.specs.Table.{table, row_of, kind_of, among, as_number, first, VRID, FRID, FOID}
use Rattle.table.specs.Text.{bytes}
use Rattle.layout.specs.Record.{kind_at, content_at}
use Rattle.layout.proofs.Promise.{full_vrid, full_frid, full_foid}
use Rattle.items.specs.Lists.{join_from, list_at}
use Rattle.items.specs.Identity.{id_at, rcnm_at}
use Rattle.items.specs.Premises.{LaidOut, Identified, Featured}
use Rattle.items.proofs.IdentityLaws.{num_one}
use Rattle.items.proofs.FrontLaws.{long_is, id_place, front_kind, front_id}
use Rattle.items.proofs.ListsLaws.{part_yes, part_no, join_end, join_next, join_all, field_some, field_fits}
use Rattle.items.proofs.CountLaws.{lent_is}
use Rattle.spans.specs.Spans.{Tagged, Reached, FrontTold, span, span_with, SpanTo, SpanOf, LoneTold}
use Rattle.spans.specs.declared.Span.{Span}
use Rattle.spans.specs.declared.Front.TheVariants.{Vector, Feature, Other}

-- ---- the fields before the lists
never : {A : Type 0} → false ≡ true → A
never e = absurd (let z : ◌≡◌ {A = ℕ} 0 1 = cc in omega arith)

no_list_first : (k : ℕ) → (row_of k).list ≡ true → first ≡ k → ⊥
unfolding row_of table
no_list_first k list e = never (rw (← e) at list)

no_list_vrid : (k : ℕ) → (row_of k).list ≡ true → VRID ≡ k → ⊥
unfolding row_of table
no_list_vrid k list e = never (rw (← e) at list)

no_list_frid : (k : ℕ) → (row_of k).list ≡ true → FRID ≡ k → ⊥
unfolding row_of table
no_list_frid k list e = never (rw (← e) at list)

no_list_foid : (k : ℕ) → (row_of k).list ≡ true → FOID ≡ k → ⊥
unfolding row_of table
no_list_foid k list e = never (rw (← e) at list)

-- a field of another kind brings nothing
join_pass : (s : List ℕ) (at k j : ℕ) → j < count_at s at → (kind_at s at j ≡ k → ⊥)
    → join_from (count_at s at - j) s at k j ≡ join_from (count_at s at - (j + 1)) s at k (j + 1)
join_pass s at k j h ne = join_next s at k j h ∙ ap (λ (l : List ℕ). l ++ join_from (count_at s at - (j + 1)) s at k (j + 1)) (part_no s at k j ne)

module _ {s : List ℕ} {at : ℕ} (laid : LaidOut s at) where
  module _ (front : kind_at s at 0 ≡ first) where
    fresh_first : (k : ℕ) → (row_of k).list ≡ true → list_at s at k ≡ join_from (count_at s at - 1) s at k 1
    fresh_first k list =
        let two = laid.two in
        sym (join_all s at k) ∙ join_pass s at k 0 (omega arith) (λ (e : kind_at s at 0 ≡ k). no_list_first k list (sym front ∙ e))

    module _ (vector : kind_at s at 1 ≡ VRID) where
      vrid_long : (field_at s at 1).length ≡ 9
      vrid_long =
          let two = laid.two in
          long_is laid 1 VRID 8 (omega arith) vector (full_vrid (content_at s at 1) (rw vector at (laid.fills 1 (omega arith))))

      vector_reached : (h : Head) (due : ℕ) → HeadOf s at h → due ≡ at + base_at s at + 12 → Reached s at h 2 due
      vector_reached h due head e =
          let two = laid.two in
          record {
            laid = laid;
            head = head;
            below = two;
            next = record { is = λ (b : 2 < count_at s at). omega (arith, laid.inside.gapless 1 b, id_place laid front, vrid_long) };
            fresh = λ (k : ℕ) (list : (row_of k).list ≡ true).
                fresh_first k list ∙ join_pass s at k 1 (omega arith) (λ (e : kind_at s at 1 ≡ k). no_list_vrid k list (sym vector ∙ e));
          }

    module _ (feature : Featured s at) where
      frid_long : (field_at s at 1).length ≡ 13
      frid_long =
          let two = laid.two in
          long_is laid 1 FRID 12 (omega arith) feature.is (full_frid (content_at s at 1) (rw feature.is at (laid.fills 1 (omega arith))))

      foid_long : (field_at s at 2).length ≡ 9
      foid_long =
          let three = feature.third in
          long_is laid 2 FOID 8 (omega arith) feature.object (full_foid (content_at s at 2) (rw feature.object at (laid.fills 2 (omega arith))))

      foid_place : at + base_at s at + 3 + 13 ≡ (field_at s at 2).start
      foid_place = let three = feature.third in omega (arith, laid.inside.gapless 1 (omega arith), id_place laid front, frid_long)

      feature_reached : (h : Head) (due : ℕ) → HeadOf s at h → due ≡ at + base_at s at + 25 → Reached s at h 3 due
      feature_reached h due head e =
          let two = laid.two in
          let three = feature.third in
          record {
            laid = laid;
            head = head;
            below = three;
            next = record {
              is = λ (b : 3 < count_at s at). omega (arith, laid.inside.gapless 2 b, laid.inside.gapless 1 (omega arith), id_place laid front, frid_long, foid_long);
            };
            fresh = λ (k : ℕ) (list : (row_of k).list ≡ true).
                fresh_first k list
                ∙ join_pass s at k 1 (omega arith) (λ (e : kind_at s at 1 ≡ k). no_list_frid k list (sym feature.is ∙ e))
                ∙ join_pass s at k 2 (omega arith) (λ (e : kind_at s at 2 ≡ k). no_list_foid k list (sym feature.object ∙ e));
          }

-- ---- front_of: t is the tag of field 0, u that of field 1, c what was read as RCNM
vrid_kind : kind_of 1448233284 ≡ VRID
unfolding kind_of among table as_number bytes
vrid_kind = refl

pub front_other : (s : List ℕ) (at : ℕ) (h : Head) → FrontTold s at h Other
unfolding FrontTold
front_other s at h = tt

module _ (s : List ℕ) (at : ℕ) (h : Head) (t : ℕ) (laid : LaidOut s at) (head : HeadOf s at h) (read : t ≡ (field_at s at 0).tag) (front : t ≡ 808464433) where
  first_is : kind_at s at 0 ≡ first
  first_is = front_kind s at h t laid head read front

  id_is : at + h.base + 3 ≡ id_at s at
  id_is = front_id s at h t laid head read front

  -- RCNM is there
  pub front_room : Identified s at → at + h.base + 3 + 1 ≤ length s
  front_room known = let long = known.long in omega (arith, id_is)

  module _ (c : ℕ) (class : Reads s (at + h.base + 3) 1 c) (known : Identified s at) where
    class_is : c ≡ rcnm_at s at
    unfolding rcnm_at
    class_is = class.is ∙ num_one s (at + h.base + 3) ∙ ap (byte_at s) id_is

    pub front_feature : c ≡ 100 → FrontTold s at h (Feature (at + h.base + 3) (at + h.base + 3 + 22))
    unfolding FrontTold
    front_feature e =
        let is : rcnm_at s at ≡ 100 = sym class_is ∙ e in
        let base = head.base in (
          id_is,
          is,
          feature_reached laid first_is (known.feature is) h _ head (omega arith),
          (let place = foid_place laid first_is (known.feature is) in omega arith),
        )

    pub front_vector : (u : ℕ) → (c ≡ 100 → ⊥) → u ≡ (field_at s at 1).tag → u ≡ 1448233284
        → FrontTold s at h (Vector (at + h.base + 3) (at + h.base + 3 + 9))
    unfolding FrontTold
    front_vector u ne tagged is =
        let vector : kind_at s at 1 ≡ VRID = ap kind_of (sym tagged ∙ is) ∙ vrid_kind in
        let base = head.base in
        (id_is, (λ (e : rcnm_at s at ≡ 100). ne (class_is ∙ e)), vector_reached laid first_is vector h _ head (omega arith))

-- ---- the walk
pub span_start : {s : List ℕ} {at j due : ℕ} {h : Head} (tag : ℕ) (sp : Span) → Reached s at h j due → sp ≡ span 0 0 → SpanTo s at tag j sp
span_start {s} {at} {j} tag sp r e = rw e (record {
  inside = record { within = λ (o : 0 ≤ 0). omega arith };
  is = λ (k : ℕ) (tagged : Tagged k tag) (o : 0 ≤ 0). r.fresh k tagged.list;
})

module _ {s : List ℕ} {at tag j : ℕ} {sp : Span} (so : SpanTo s at tag j sp) where
  -- behind the last field the span is all
  pub span_end : (n : ℕ) → n ≡ count_at s at → n ≤ j → SpanOf s at tag sp
  span_end n count all = record {
    inside = so.inside;
    is = λ (k : ℕ) (tagged : Tagged k tag) (o : sp.from ≤ sp.to).
        so.is k tagged o
        ∙ ap (λ (l : List ℕ). take (sp.to - sp.from) (drop sp.from s) ++ l) (join_end s at k j (omega arith))
        ∙ append-nil (take (sp.to - sp.from) (drop sp.from s));
  }

  module _ (f : Field) (laid : LaidOut s at) (more : j < count_at s at) (read : f ≡ field_at s at j) where
    span_pass : (f.tag ≡ tag → ⊥) → SpanTo s at tag (j + 1) sp
    span_pass ne = record {
      inside = so.inside;
      is = λ (k : ℕ) (tagged : Tagged k tag) (o : sp.from ≤ sp.to).
          so.is k tagged o
          ∙ ap (λ (l : List ℕ). take (sp.to - sp.from) (drop sp.from s) ++ l)
          (join_pass s at k j more (λ (e : kind_at s at j ≡ k). ne (ap (λ (x : Field). x.tag) read ∙ tagged.only (field_at s at j).tag e)));
    }

    span_take : f.tag ≡ tag → sp.from ≡ sp.to → SpanTo s at tag (j + 1) (span f.start (f.start + (f.length - 1)))
    span_take same none = record {
      inside = record {
        within = λ (o : f.start ≤ f.start + (f.length - 1)).
            rw read (let within = (laid.inside.fields j more).within in let fits = laid.inside.fits in let some = (laid.inside.fields j more).long in omega arith);
      };
      is = λ (k : ℕ) (tagged : Tagged k tag) (o : f.start ≤ f.start + (f.length - 1)).
          let kind : kind_at s at j ≡ k = ap kind_of (ap (λ (x : Field). x.tag) (sym read) ∙ same) ∙ tagged.is in
          let empty : sp.to - sp.from ≡ 0 = omega arith in
          rw empty at (so.is k tagged (omega arith))
          ∙ join_next s at k j more
          ∙ ap (λ (l : List ℕ). l ++ join_from (count_at s at - (j + 1)) s at k (j + 1)) (part_yes s at k j kind ∙ sym (lent_is s at j f read));
    }

    span_many : SpanTo s at tag (j + 1) (span 1 0)
    span_many = record {
      inside = record { within = λ (o : 1 ≤ 0). absurd (omega arith) };
      is = λ (k : ℕ) (tagged : Tagged k tag) (o : 1 ≤ 0). absurd (omega arith);
    }

    span_on : (r : Span) → r ≡ span_with sp f tag → SpanTo s at tag (j + 1) r
    unfolding span_with
    span_on r e =
        ⊎_elim
        (λ (same : f.tag ≡ tag).
        ⊎_elim
        (λ (none : sp.from ≡ sp.to). rw (e, eq-eqb f.tag tag same, eq-eqb sp.from sp.to none) (span_take same none))
        (λ (some : sp.from ≡ sp.to → ⊥). rw (e, eq-eqb f.tag tag same, ne_eqb sp.from sp.to some) span_many)
        (eq_or_ne sp.from sp.to))
        (λ (ne : f.tag ≡ tag → ⊥). rw (e, ne_eqb f.tag tag ne) (span_pass ne))
        (eq_or_ne f.tag tag)

-- ---- a turn of the walk: f is field j as it is read
module _ {s : List ℕ} {at i x : ℕ} {h : Head} (reached : Reached s at h i x) (j : ℕ) (f : Field) (more : j < h.count) (read : f ≡ field_at s at j) where
  below : j < count_at s at
  below = let count = reached.head.count in omega arith

  pub turn_some : 1 ≤ f.length
  turn_some = field_some s at j f reached.laid read below

  pub turn_fits : f.start + f.length ≤ length s
  turn_fits = field_fits s at j f reached.laid read below

  pub turn_due : (due : ℕ) → due ≡ f.start + f.length → Due s at (j + 1) due
  turn_due due e = record { is = λ b. e ∙ rw read (sym (reached.laid.inside.gapless j b)) }

  pub turn_span : {tag : ℕ} {sp : Span} (r : Span) → SpanTo s at tag j sp → r ≡ span_with sp f tag → SpanTo s at tag (j + 1) r
  turn_span r so e = span_on so f reached.laid below read r e

-- ---- lone_pair
pub lone_no : (s : List ℕ) (at due : ℕ) → LoneTold s at due false
lone_no s at due = record { is = λ (e : false ≡ true). never e }

-- one turn, from the start to the end: f is field 2, the only one behind the identifier field
module _ {s : List ℕ} {at due : ℕ} {h : Head} (reached : Reached s at h 2 due) (three : h.count ≡ 3) (f : Field) (read : f ≡ field_at s at 2) (pair : f.tag ≡ 1397174852) where
  lone_count : 3 ≡ count_at s at
  lone_count = let count = reached.head.count in omega arith

  lone_start : f.start ≡ due
  lone_start = ap (λ (x : Field). x.start) read ∙ sym (reached.next.is (let count = lone_count in omega arith))

  lone_empty : (tag : ℕ) → (1397174852 ≡ tag → ⊥) → SpanOf s at tag (span 0 0)
  lone_empty tag other =
      let count = lone_count in
      span_end (span_pass (span_start tag (span 0 0) reached refl) f reached.laid (omega arith) read (λ (e : f.tag ≡ tag). other (sym pair ∙ e))) 3 count (omega arith)

  lone_full : f.length ≡ 9 → SpanOf s at 1397174852 (span due (due + 8))
  lone_full nine =
      let count = lone_count in
      rw (lone_start, nine) at
      (span_end (span_take (span_start 1397174852 (span 0 0) reached refl) f reached.laid (omega arith) read pair refl) 3 count (omega arith))

  pub lone_told : LoneTold s at due (eqb f.length 9)
  lone_told = record {
    is = λ (e : eqb f.length 9 ≡ true).
        let full = lone_full (eqb-true f.length 9 e) in
        record {
          room = full.inside.within (omega arith);
          ends = lone_empty 1448235092 (λ (z : 1397174852 ≡ 1448235092). omega arith);
          pairs = full;
          soundings = lone_empty 1397175108 (λ (z : 1397174852 ≡ 1397175108). omega arith);
        };
  }
