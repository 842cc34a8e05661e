-- Laws of the values of a record: the fault of a field by its kind, and the walk over the fields. Assumes nothing.
use Prim.Native.Nat.{ℕ, suc, ◌+◌, ◌-◌, ◌*◌, ◌≤◌, ◌<◌}
use mathlib.Core.Bool.{Bool, true, false, cond, or-false}
use mathlib.Core.List.{List, []}
use mathlib.Core.Logic.{⊎_elim}
use mathlib.Core.Path.{◌≡◌, refl, ap, ◌∙◌}
use native.Mathlib.Nat.{sub-zero, mul-le-mul_left}
use Rattle.iso8211.specs.Leader.{length_digits, position_digits}
use Rattle.iso8211.specs.Directory.{row_width}
use native.Mathlib.Omega.{arith}
use lib.ListN.{length, take, drop, length-take, length-drop}
use lib.Dec.{eqb}
use borrow.Author.Tests.{eq-eqb, ne_eqb, eqb-true}
use Rattle.octets.proofs.Cases.{true_or_false}
use Rattle.iso8211.specs.Record.{end_of}
use Rattle.iso8211.specs.Field.{count_at, field_at, FieldIn}
use Rattle.iso8211.specs.Premises.{FramedAt}
use Rattle.iso8211.specs.declared.field.Field.{Field}
use Rattle.entries.specs.Premises.{Whole}
use Rattle.table.specs.Table.{table, row_of, kind_of, DSID, DSSI, DSPM, VRID, ATTV, FRID, ATTF, NATF, FFPT, kind_count}
use Rattle.dataset.specs.Dsid.{dsid_fault}
use Rattle.headvalues.specs.Dssi.{dssi_fault}
use Rattle.headvalues.specs.Dspm.{dspm_fault}
use Rattle.values.specs.Vrid.{vrid_fault}
use Rattle.values.specs.Frid.{frid_fault}
use Rattle.attributes.specs.Attributes.{attribute, pointer, ffpt_fault}
use Rattle.attributes.specs.Premises.{Stamped, Upto}
use Rattle.attributes.specs.Judged.{AttributesJudged}
use Rattle.attributes.proofs.StampLaws.{stamp_fresh, upto_more}
use Rattle.layout.specs.Layout.{filled, content_of}
use Rattle.layout.proofs.Promise.{full_list}
use Rattle.fieldvalue.specs.Value.{is_attributes, is_high, field_fault, seen_before, seen_after, values_from, value_fault}
use Rattle.std.specs.Prelude.{Result, Ok, Err, IfErr}
use Rattle.values.specs.declared.fault.Fault.{Fault}
use Rattle.values.specs.Fault.{told}
use Rattle.values.proofs.FaultLaws.{told_ok, told_none, told_some, place_ok, place_err, on_any}
use Rattle.fieldvalue.specs.Judged.{PlainJudged, FieldJudged, Full, RecordJudged}

-- ---- the fault of a field, by its kind
module _ {update : Bool} {k : ℕ} {c : List ℕ} {r : Result Unit Fault} (most : IfErr r (λ f. f.at < length c)) where
  pub plain_dsid : k ≡ DSID → r ≡ told (dsid_fault update c) → PlainJudged update k c r
  unfolding field_fault
  plain_dsid e f = record { fault = λ aall nall seen. rw e f; within = most }

  pub plain_dssi : k ≡ DSSI → r ≡ told (dssi_fault update c) → PlainJudged update k c r
  unfolding field_fault
  plain_dssi e f = record { fault = λ aall nall seen. rw e f; within = most }

  pub plain_dspm : k ≡ DSPM → r ≡ told (dspm_fault c) → PlainJudged update k c r
  unfolding field_fault
  plain_dspm e f = record { fault = λ aall nall seen. rw e f; within = most }

  pub plain_vrid : k ≡ VRID → r ≡ told (vrid_fault update c) → PlainJudged update k c r
  unfolding field_fault
  plain_vrid e f = record { fault = λ aall nall seen. rw e f; within = most }

  pub plain_frid : k ≡ FRID → r ≡ told (frid_fault update c) → PlainJudged update k c r
  unfolding field_fault
  plain_frid e f = record { fault = λ aall nall seen. rw e f; within = most }

  pub plain_ffpt : k ≡ FFPT → r ≡ told (ffpt_fault c) → PlainJudged update k c r
  unfolding field_fault is_attributes
  plain_ffpt e f = record { fault = λ aall nall seen. rw e f; within = most }

-- a kind without rules
pub plain_none : {update : Bool} {k : ℕ} {c : List ℕ} → (k ≡ DSID → ⊥) → (k ≡ DSSI → ⊥) → (k ≡ DSPM → ⊥) → (k ≡ VRID → ⊥) → (k ≡ FRID → ⊥) → (k ≡ FFPT → ⊥)
    → is_attributes k ≡ false → PlainJudged update k c (Ok tt)
unfolding field_fault
plain_none {update} {k} {c} a b d e f g h = record {
  fault = λ aall nall seen. told_ok (rw (ne_eqb k DSID a, ne_eqb k DSSI b, ne_eqb k DSPM d, ne_eqb k VRID e, ne_eqb k FRID f, h, ne_eqb k FFPT g));
  within = tt;
}

-- which kinds are lists of attributes
pub attributes_none : (k : ℕ) → (k ≡ ATTV → ⊥) → (k ≡ ATTF → ⊥) → (k ≡ NATF → ⊥) → is_attributes k ≡ false
unfolding is_attributes
attributes_none k a b d = rw (ne_eqb k ATTV a, ne_eqb k ATTF b, ne_eqb k NATF d)

-- the table stays
pub judged_plain : {update : Bool} {aall nall k : ℕ} {c : List ℕ} {stamp : ℕ} {t : List ℕ} {r : Result Unit Fault} → is_attributes k ≡ false → PlainJudged update k c r
    → FieldJudged update aall nall k c stamp t t r
unfolding seen_after
judged_plain {aall = aall} {nall = nall} {r = r} none j =
    record { fault = λ seen s. j.fault aall nall seen; met = λ seen s. on_any r (rw none s); upto = λ u. u; within = j.within }

-- a list of attributes is whole, and so is a list of FFPT
pub attv_whole : {k : ℕ} {c : List ℕ} → k ≡ ATTV → filled k c ≡ true → Whole attribute c
unfolding row_of table
attv_whole {k} {c} e h = (full_list ATTV c refl (rw e at h)).0

pub attf_whole : {k : ℕ} {c : List ℕ} → k ≡ ATTF → filled k c ≡ true → Whole attribute c
unfolding row_of table
attf_whole {k} {c} e h = (full_list ATTF c refl (rw e at h)).0

pub natf_whole : {k : ℕ} {c : List ℕ} → k ≡ NATF → filled k c ≡ true → Whole attribute c
unfolding row_of table
natf_whole {k} {c} e h = (full_list NATF c refl (rw e at h)).0

pub pointers_whole : {k : ℕ} {c : List ℕ} → k ≡ FFPT → filled k c ≡ true → Whole pointer c
unfolding row_of table
pointers_whole {k} {c} e h = (full_list FFPT c refl (rw e at h)).0

-- at its level
module _ {update : Bool} {aall nall k : ℕ} {c : List ℕ} {stamp : ℕ} {t u : List ℕ} {r : Result Unit Fault} where
  pub judged_attv : k ≡ ATTV → AttributesJudged update false c stamp t u r → FieldJudged update aall nall k c stamp t u r
  unfolding field_fault is_attributes is_high seen_after
  judged_attv e j = rw e (record { fault = λ seen s. j.fault seen s; met = λ seen s. j.met seen s; upto = j.upto; within = j.within })

  pub judged_attf : k ≡ ATTF → AttributesJudged update (eqb aall 1) c stamp t u r → FieldJudged update aall nall k c stamp t u r
  unfolding field_fault is_attributes is_high seen_after
  judged_attf e j = rw e (record { fault = λ seen s. rw (or-false (eqb aall 1)) (j.fault seen s); met = λ seen s. j.met seen s; upto = j.upto; within = j.within })

  pub judged_natf : k ≡ NATF → AttributesJudged update (eqb nall 1) c stamp t u r → FieldJudged update aall nall k c stamp t u r
  unfolding field_fault is_attributes is_high seen_after
  judged_natf e j = rw e (record { fault = λ seen s. j.fault seen s; met = λ seen s. j.met seen s; upto = j.upto; within = j.within })

-- ---- the walk over the fields
-- a record has more bytes than fields
pub count_few : (s : List ℕ) (at : ℕ) → FramedAt s at → at + count_at s at < end_of s at
count_few s at f =
    let w = row_width (length_digits s at) (position_digits s at) in
    let step : count_at s at * 1 ≤ count_at s at * w = mul-le-mul_left (count_at s at) (omega arith) in
    let whole = f.headed.whole in
    let high = f.high in
    omega arith

-- where field j is due: the answer from the start is the answer from here, `seen` the labels that the list of kind prev has met, which
-- the table has under the stamp
pub record Now (update : Bool) (aall nall : ℕ) (s : List ℕ) (at : ℕ) (t : List ℕ) (j prev stamp : ℕ) : Type 0 where
  pub seen : List ℕ
  pub stamped : prev < kind_count → Stamped t stamp seen
  pub upto : Upto t stamp
  pub below : stamp ≤ at + j
  pub answer : value_fault update aall nall s at ≡ values_from (count_at s at - j) update aall nall s at j prev seen

-- all that holds where the stamps of the records before were below
pub record Walked (update : Bool) (aall nall : ℕ) (s : List ℕ) (at : ℕ) (before t : List ℕ) (j prev stamp : ℕ) : Type 0 where
  pub here : Upto before at → Now update aall nall s at t j prev stamp

pub walked_start : (update : Bool) (aall nall : ℕ) (s : List ℕ) (at : ℕ) (t : List ℕ) → Walked update aall nall s at t t 0 kind_count at
unfolding value_fault
walked_start update aall nall s at t =
    record { here = λ u. record { seen = []; stamped = λ h. absurd (omega arith); upto = u; below = omega arith; answer = rw (sub-zero (count_at s at)) } }

-- the stamp and the labels with which the list of field j goes on or begins
module _ {update : Bool} {aall nall : ℕ} {s : List ℕ} {at : ℕ} {before t : List ℕ} {j prev stamp : ℕ} (w : Walked update aall nall s at before t j prev stamp) (k new : ℕ)
    (small : k < kind_count)
    (is : new ≡ cond (eqb prev k) stamp (at + j + 1)) (u : Upto before at) where
  next_stamped : Stamped t new (seen_before prev k (w.here u).seen)
  unfolding seen_before
  next_stamped =
      let n = w.here u in
      ⊎_elim (λ (e : eqb prev k ≡ true). let same : prev ≡ k = eqb-true _ _ e in rw (is, e) (n.stamped (omega arith)))
      (λ (e : eqb prev k ≡ false). let low = n.below in rw (is, e) (stamp_fresh n.upto (omega arith))) (true_or_false (eqb prev k))

  next_upto : Upto t new
  next_upto =
      let n = w.here u in
      ⊎_elim (λ (e : eqb prev k ≡ true). rw (is, e) n.upto)
      (λ (e : eqb prev k ≡ false). let low = n.below in rw (is, e) (upto_more n.upto (omega arith))) (true_or_false (eqb prev k))

pub next_low : {update : Bool} {aall nall : ℕ} {s : List ℕ} {at : ℕ} {before t : List ℕ} {j prev stamp : ℕ} (w : Walked update aall nall s at before t j prev stamp) (k new : ℕ)
    → new ≡ cond (eqb prev k) stamp (at + j + 1) → Upto before at → new ≤ at + (j + 1)
next_low {at = at} {j = j} {prev = prev} {stamp = stamp} w k new is u =
    let low = (w.here u).below in
    ⊎_elim (λ (e : eqb prev k ≡ true). let q : new ≡ stamp = is ∙ rw e in omega arith)
    (λ (e : eqb prev k ≡ false). let q : new ≡ at + j + 1 = is ∙ rw e in omega arith) (true_or_false (eqb prev k))

values_next : (n m : ℕ) (update : Bool) (aall nall : ℕ) (s : List ℕ) (at j prev : ℕ) (seen : List ℕ) (k : ℕ) (c : List ℕ) → n ≡ suc m → k ≡ kind_of (field_at s at j).tag
    → c ≡ content_of s (field_at s at j)
    → field_fault update aall nall k (seen_before prev k seen) c ≡ 0 → values_from n update aall nall s at j prev seen ≡ values_from m update aall nall s at (j + 1) k
    (seen_after k (seen_before prev k seen) c)
unfolding values_from
values_next n m update aall nall s at j prev seen k c e f g z = rw (e, ← f, ← g, eq-eqb _ _ z)

values_stop : (n m : ℕ) (update : Bool) (aall nall : ℕ) (s : List ℕ) (at j prev : ℕ) (seen : List ℕ) (k : ℕ) (c : List ℕ) → n ≡ suc m → k ≡ kind_of (field_at s at j).tag
    → c ≡ content_of s (field_at s at j)
    → (field_fault update aall nall k (seen_before prev k seen) c ≡ 0 → ⊥)
    → values_from n update aall nall s at j prev seen ≡ (field_at s at j).start + (field_fault update aall nall k (seen_before prev k seen) c - 1)
unfolding values_from
values_stop n m update aall nall s at j prev seen k c e f g z = rw (e, ← f, ← g, ne_eqb _ _ z)

module _ {update : Bool} {aall nall : ℕ} {s : List ℕ} {at : ℕ} {before t after : List ℕ} {j prev stamp new k : ℕ} {r : Result Unit Fault} {c : List ℕ} (f : Field)
    (w : Walked update aall nall s at before t j prev stamp) (more : j < count_at s at) (is : f ≡ field_at s at j) (kind : k ≡ kind_of f.tag) (small : k < kind_count)
    (content : c ≡ content_of s f)
    (stamped : new ≡ cond (eqb prev k) stamp (at + j + 1)) (judged : FieldJudged update aall nall k c new t after r) where
  pub walked_on : {v : Unit} → r ≡ Ok v → Walked update aall nall s at before after (j + 1) k new
  walked_on z = record {
    here = λ u.
        let n = w.here u in
        let st = next_stamped w k new small stamped u in
        record {
          seen = seen_after k (seen_before prev k n.seen) c;
          stamped = λ h. rw z at (judged.met _ st);
          upto = judged.upto (next_upto w k new small stamped u);
          below = next_low w k new stamped u;
          answer = n.answer ∙ values_next (count_at s at - j) (count_at s at - (j + 1)) update aall nall s at j prev n.seen k c (omega arith)
              (kind ∙ ap (λ (x : Field). kind_of x.tag) is)
              (content ∙ ap (λ (x : Field). content_of s x) is) (told_none _ (judged.fault _ st) z);
        };
  }

  pub walked_stop : FramedAt s at → FieldIn s at (end_of s at) f → {x : Fault} → r ≡ Err x → f.start + x.at ≤ length s
      → RecordJudged update aall nall s at before after (Err (record { at = f.start + x.at }))
  walked_stop framed i z most = record {
    fault = λ u.
        let n = w.here u in
        let st = next_stamped w k new small stamped u in
        let same = told_some _ (judged.fault _ st) z in
        let low = framed.headed.low in
        let behind = i.after in
        place_err _ (n.answer ∙ values_stop (count_at s at - j) (count_at s at - (j + 1)) update aall nall s at j prev n.seen k c (omega arith)
        (kind ∙ ap (λ (x : Field). kind_of x.tag) is)
        (content ∙ ap (λ (x : Field). content_of s x) is) (λ q. omega arith) ∙ rw (← is, same) (omega arith)) (λ e. omega arith);
    upto = λ u. upto_more (judged.upto (next_upto w k new small stamped u))
        (let low = next_low w k new stamped u in let high = count_few s at framed in omega arith);
    within = most;
  }

pub walked_end : {update : Bool} {aall nall : ℕ} {s : List ℕ} {at : ℕ} {before t : List ℕ} {j prev stamp : ℕ} → Walked update aall nall s at before t j prev stamp → FramedAt s at
    → count_at s at ≤ j → j ≤ count_at s at
    → RecordJudged update aall nall s at before t (Ok tt)
unfolding values_from
walked_end {update} {aall} {nall} {s} {at} {before} {t} {j} {prev} {stamp} w framed low high = record {
  fault = λ u. let n = w.here u in let z : count_at s at - j ≡ 0 = omega arith in place_ok (n.answer ∙ rw z);
  upto = λ u. let n = w.here u in let b = n.below in let few = count_few s at framed in upto_more n.upto (omega arith);
  within = tt;
}

-- ---- a field of a record that is laid out
pub field_facts : {s : List ℕ} {at : ℕ} (j : ℕ) (f : Field) → Full s at → j < count_at s at → f ≡ field_at s at j → FieldIn s at (end_of s at) f
field_facts j f full less e = rw e (full.known.fields j less)

-- its content, lent
pub lent_content : (s : List ℕ) (f : Field) → take (f.start + (f.length - 1) - f.start) (drop f.start s) ≡ content_of s f
lent_content s f = let e : f.start + (f.length - 1) - f.start ≡ f.length - 1 = omega arith in rw e

pub lent_filled : {s : List ℕ} {at : ℕ} (j k : ℕ) (f : Field) → Full s at → j < count_at s at → f ≡ field_at s at j → k ≡ kind_of f.tag
    → filled k (take (f.start + (f.length - 1) - f.start) (drop f.start s)) ≡ true
lent_filled {s} {at} j k f full less e g = rw (lent_content s f, g, e) (full.full j less)

pub lent_length : {s : List ℕ} {at : ℕ} (f : Field) → FieldIn s at (end_of s at) f → end_of s at ≤ length s
    → length (take (f.start + (f.length - 1) - f.start) (drop f.start s)) ≡ f.length - 1
lent_length {s} {at} f i fits = let long = i.long in let within = i.within in rw (length-take, length-drop) (omega arith)
