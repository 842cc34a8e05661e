-- Laws of the reading of a file's records. Assumes nothing.
use Prim.Native.Nat.{ℕ, suc, ◌+◌, ◌-◌, ◌≤◌, ◌<◌}
use mathlib.Core.Bool.{Bool}
use mathlib.Core.List.{List, []}
use mathlib.Core.Path.{◌≡◌, refl, sym, ap, ◌∙◌}
use native.Mathlib.Omega.{arith}
use lib.ListN.{length, replicate, length-replicate}
use lib.Dec.{eqb}
use borrow.Author.Tests.{eq-eqb, ne_eqb, lt-ltb, le-ltb}
use Rattle.layout.specs.Premises.{LevelsIn}
use Rattle.iso8211.specs.Record.{end_of}
use Rattle.iso8211.specs.Field.{count_at, field_at}
use Rattle.iso8211.specs.Premises.{RecordIn}
use Rattle.iso8211.specs.File.{record_at}
use Rattle.iso8211.specs.declared.field.Field.{Field}
use Rattle.iso8211.proofs.Promise.{fields_in, at_next, at_first, at_least}
use Rattle.table.specs.Table.{kind_of, kind_count}
use Rattle.attributes.specs.Premises.{Upto}
use Rattle.attributes.proofs.StampLaws.{upto_zeros, upto_more}
use Rattle.declarations.specs.Described.{described_of}
use Rattle.layout.specs.Layout.{layout_fault}
use Rattle.layout.specs.Record.{content_at}
use Rattle.layout.proofs.Promise.{laid, laid_dsid, full_dssi, content_length}
use Rattle.std.specs.Prelude.{Result, Ok, Err}
use Rattle.values.specs.declared.fault.Fault.{Fault}
use Rattle.values.specs.Fault.{told_place}
use Rattle.values.proofs.FaultLaws.{place_none, place_some}
use Rattle.fieldvalue.specs.Value.{value_fault}
use Rattle.fieldvalue.specs.Judged.{Full, RecordJudged}
use Rattle.chart.specs.Read.{next_stage, is_feature, passed_state, first_state, records_fault, read_fault}
use Rattle.layout.specs.General.{aall_at, nall_at}
use Rattle.chart.specs.declared.read.State.{State}
use Rattle.answers.specs.Answer.{refusal, outcome}
use Rattle.answers.proofs.OutcomeLaws.{fine_told, made_told}
use Rattle.chart.specs.Before.{RecordPassed, BeforeRecords, ReadTo, start_at}
use Rattle.chart.specs.declared.read.Reached.{Reached}
use Rattle.answers.specs.declared.refusal.Refusal.{Refusal}

-- ---- what is known behind a record
-- is_feature: field 1 as it is read
pub feature_is : (s : List ℕ) (at k : ℕ) (f : Field) → f ≡ field_at s at 1 → k ≡ kind_of f.tag → eqb k 10 ≡ is_feature s at
unfolding is_feature
feature_is s at k f e g = rw (g, e)

-- DSSI lies in the file with its levels
pub levels_in : {s : List ℕ} {at stage : ℕ} → RecordPassed s at stage → stage ≡ 0 → LevelsIn s at
levels_in {s} {at} {stage} p z =
    let d = p.dssi z in
    let three = d.0 in
    let long = d.1 in
    let in2 = p.known.fields 2 (omega arith) in
    let size = content_length s at 2 (fields_in p.known) (omega arith) in
    let within = in2.within in
    let fits = p.known.framed.fits in
    record { inside = p.known; third = three; room = omega arith }

module _ (update : Bool) (s : List ℕ) (at : ℕ) (st : State) (next : ℕ) (feature : Bool) (is : next ≡ next_stage update st.stage feature) (told : feature ≡ is_feature s at) where
  pub passed_first : (a b : ℕ) → st.stage ≡ 0 → a ≡ aall_at s at → b ≡ nall_at s at → record { stage = next; aall = a; nall = b } ≡ passed_state update s at st
  unfolding passed_state
  passed_first a b z x y = rw (is, told, z, x, y)

  pub passed_later : (st.stage ≡ 0 → ⊥) → record { stage = next; aall = st.aall; nall = st.nall } ≡ passed_state update s at st
  unfolding passed_state
  passed_later z = rw (ne_eqb _ _ z, is, told)

-- ---- records_fault: one law for each way through a turn
-- the answer from record k on is the whole answer, and the stamps of the table are those of the records before
pub record Reading (update : Bool) (marks s : List ℕ) (whole : Refusal) (n : ℕ) (t : List ℕ) (k at : ℕ) (st : State) : Type 0 where
  pub is : whole ≡ records_fault (n - k) update marks s k at st
  pub upto : Upto t at

-- record 1 starts where record 0 ends
pub one_at : (s : List ℕ) (at : ℕ) → at ≡ end_of s 0 → record_at s 1 ≡ at
one_at s at e = sym (at_next s 0 0 (sym (at_first s))) ∙ sym e

pub reading_start : (update : Bool) (marks s : List ℕ) (n : ℕ) (t : List ℕ) (at : ℕ) → at ≡ end_of s 0 → 0 < at → Upto t 0
    → Reading update marks s (records_fault (n - 1) update marks s 1 (record_at s 1) first_state) n t 1 at first_state
reading_start update marks s n t at e past u = record {
  is = ap (λ (x : ℕ). records_fault (n - 1) update marks s 1 x first_state) (one_at s at e);
  upto = upto_more u past;
}

-- from any record on
pub reading_from : {update : Bool} {marks s : List ℕ} {n : ℕ} {t : List ℕ} {from : Reached} → BeforeRecords s n from marks t
    → Reading update marks s (records_fault (n - from.index) update marks s from.index from.at from.known) n t from.index from.at from.known
reading_from {s = s} {n = n} {from = from} so =
    let low = so.low in
    let place = so.place in
    let least = at_least s n from.index so.framed so.high in
    record { is = refl; upto = upto_more so.blank (omega arith) }

records_layout : (m p : ℕ) (update : Bool) (marks s : List ℕ) (k at : ℕ) (st : State) → m ≡ suc p → (layout_fault update st.stage marks s at ≡ 0 → ⊥)
    → records_fault m update marks s k at st ≡ refusal 5 k (layout_fault update st.stage marks s at)
unfolding records_fault
records_layout m p update marks s k at st e h = rw (e, ne_eqb _ _ h)

records_value : (m p : ℕ) (update : Bool) (marks s : List ℕ) (k at : ℕ) (st : State) → m ≡ suc p → layout_fault update st.stage marks s at ≡ 0
    → (value_fault update st.aall st.nall s at ≡ 0 → ⊥)
    → records_fault m update marks s k at st ≡ refusal 6 k (value_fault update st.aall st.nall s at)
unfolding records_fault
records_value m p update marks s k at st e h g = rw (e, eq-eqb _ _ h, ne_eqb _ _ g)

records_next : (m p : ℕ) (update : Bool) (marks s : List ℕ) (k at : ℕ) (st : State) → m ≡ suc p → layout_fault update st.stage marks s at ≡ 0
    → value_fault update st.aall st.nall s at ≡ 0
    → records_fault m update marks s k at st ≡ records_fault p update marks s (k + 1) (end_of s at) (passed_state update s at st)
unfolding records_fault
records_next m p update marks s k at st e h g = rw (e, eq-eqb _ _ h, eq-eqb _ _ g)

module _ {update : Bool} {marks s : List ℕ} {whole : Refusal} {n : ℕ} {t : List ℕ} {k at : ℕ} {st : State} (so : Reading update marks s whole n t k at st) (more : k < n) where
  pub reading_layout : {a : Result Unit Fault} {f : Fault} (r : Refusal) → a ≡ told_place (layout_fault update st.stage marks s at) → a ≡ Err f → r
      ≡ refusal 5 k f.at → Err r ≡ outcome whole
  reading_layout r e h q =
      let p = place_some _ e h in
      made_told q (q ∙ ap (refusal 5 k) (sym p.0) ∙ sym (so.is ∙ records_layout (n - k) (n - (k + 1)) update marks s k at st (omega arith) p.1))

  module _ (none : layout_fault update st.stage marks s at ≡ 0) {after : List ℕ} {v : Result Unit Fault}
      (judged : RecordJudged update st.aall st.nall s at t after v) where
    pub reading_value : {f : Fault} (r : Refusal) → v ≡ Err f → r ≡ refusal 6 k f.at → Err r ≡ outcome whole
    reading_value r h q =
        let p = place_some _ (judged.fault so.upto) h in
        made_told q (q ∙ ap (refusal 6 k) (sym p.0) ∙ sym (so.is ∙ records_value (n - k) (n - (k + 1)) update marks s k at st (omega arith) none p.1))

    pub reading_on : {u : Unit} → v ≡ Ok u → (next : State) (e : ℕ) → next ≡ passed_state update s at st → e ≡ end_of s at → Reading update marks s whole n after (k + 1) e next
    reading_on z next e is end = record {
      is = so.is ∙ records_next (n - k) (n - (k + 1)) update marks s k at st (omega arith) none (place_none _ (judged.fault so.upto) z)
          ∙ ap (λ (x : ℕ). records_fault (n - (k + 1)) update marks s (k + 1) x (passed_state update s at st)) (sym end)
          ∙ ap (λ (x : State). records_fault (n - (k + 1)) update marks s (k + 1) e x) (sym is);
      upto = rw end (judged.upto so.upto);
    }

module _ {update : Bool} {marks s : List ℕ} {whole : Refusal} {n : ℕ} {t : List ℕ} {k at : ℕ} {st : State} (so : Reading update marks s whole n t k at st) (low : n ≤ k) where
  pub reading_short : (r : Refusal) → st.stage < 2 → r ≡ refusal 5 k (length s) → r ≡ whole
  unfolding records_fault
  reading_short r h q = let z : n - k ≡ 0 = omega arith in q ∙ sym (so.is ∙ rw (z, lt-ltb _ _ h))

  pub reading_end : (r : Refusal) → 2 ≤ st.stage → r ≡ refusal 0 0 0 → r ≡ whole
  unfolding records_fault
  reading_end r h q = let z : n - k ≡ 0 = omega arith in q ∙ sym (so.is ∙ rw (z, le-ltb _ _ h))

  -- the same as the code tells it, behind a loop that ends at n
  pub told_short : (r : Refusal) → k ≤ n → st.stage < 2 → r ≡ refusal 5 n (length s) → Err r ≡ outcome whole
  told_short r high h q = let e : n ≡ k = omega arith in made_told q (reading_short r h (rw e at q))

  pub told_end : 2 ≤ st.stage → Ok tt ≡ outcome whole
  told_end h = fine_told whole (ap (λ (q : Refusal). q.code) (sym (reading_end (refusal 0 0 0) h refl)))

-- ---- what Layout gives
pub full_of : (update : Bool) (stage : ℕ) (marks s : List ℕ) (at : ℕ) → RecordIn s at → layout_fault update stage marks s at ≡ 0 → Full s at
full_of update stage marks s at known z = record { known = known; full = (laid update stage marks s at known z).full }

pub passing_of : (update : Bool) (stage : ℕ) (marks s : List ℕ) (at : ℕ) → RecordIn s at → layout_fault update stage marks s at ≡ 0 → RecordPassed s at stage
passing_of update stage marks s at known z =
    let d = laid update stage marks s at known z in
    record {
      known = known;
      two = d.two;
      dssi = λ (zero : stage ≡ 0).
          let f = laid_dsid d zero in
          let three : 3 ≤ count_at s at = let q = f.0 in omega arith in
          (three, let size = full_dssi (content_at s at 2) (rw f.2 at (d.full 2 (omega arith))) in omega arith);
    }

-- ---- read_fault_from
pub read_described : (update : Bool) (s : List ℕ) (n : ℕ) (r : Refusal) → [] ≡ described_of s → r ≡ refusal 4 0 0 → Err r ≡ outcome (read_fault update s n)
unfolding read_fault
read_described update s n r e q = made_told q (q ∙ rw (← e))

-- where record 0 is described, there are marks
pub marks_some : (s marks : List ℕ) → marks ≡ described_of s → length marks ≡ kind_count → length (described_of s) ≡ 0 → ⊥
marks_some s marks e all z = let size = ap length e in omega arith

-- and the answer of the file is that of its records
pub read_start : (update : Bool) (s : List ℕ) (n : ℕ) → (length (described_of s) ≡ 0 → ⊥)
    → read_fault update s n ≡ records_fault (n - 1) update (described_of s) s 1 (record_at s 1) first_state
unfolding read_fault
read_start update s n some = rw (ne_eqb _ _ some)

pub read_records : {update : Bool} {s : List ℕ} {n : ℕ} {from : Reached} (marks : List ℕ) (r : Result Unit Refusal) → ReadTo update s n from → marks ≡ described_of s
    → length marks ≡ kind_count → r ≡ outcome (records_fault (n - from.index) update marks s from.index from.at from.known) → r ≡ outcome (read_fault update s n)
read_records {update} {s} {n} {from} marks r so e all q =
    q ∙ ap (λ (m : List ℕ). outcome (records_fault (n - from.index) update m s from.index from.at from.known)) e
    ∙ ap outcome (sym (so.is (marks_some s marks e all)))

-- ---- read_fault
pub read_first : (update : Bool) (s : List ℕ) (n at : ℕ) (from : Reached) → 0 < n → at ≡ end_of s 0 → from ≡ start_at at → ReadTo update s n from
read_first update s n at from some end is = rw is (record {
  low = omega arith;
  high = some;
  place = sym (one_at s at end);
  is = λ there. read_start update s n there ∙ ap (λ (x : ℕ). records_fault (n - 1) update (described_of s) s 1 x first_state) (one_at s at end);
})

-- a blank table
blank_of : (m : ℕ) (t : List ℕ) → t ≡ replicate m 0 → (length t ≡ m) × Upto t 0
blank_of m t e = (ap length e ∙ length-replicate m 0, rw e (upto_zeros m))

pub blank_upto : (t : List ℕ) → t ≡ replicate 65536 0 → (length t ≡ 65536) × Upto t 0
blank_upto t e = blank_of 65536 t e
