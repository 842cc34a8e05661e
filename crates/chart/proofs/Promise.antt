-- What the crates above may use of a file in which nothing was refused: of each record that its layout and its values are good, and which
-- kind of record it is. Assumes nothing.
use Prim.Native.Nat.{ℕ, zero, suc, ◌+◌, ◌-◌, ◌≤◌, ◌<◌}
use mathlib.Core.Bool.{Bool, true, false, cond}
use mathlib.Core.List.{List, []}
use mathlib.Core.Logic.{⊎_elim}
use mathlib.Core.Path.{◌≡◌, refl}
use native.Mathlib.Omega.{arith}
use lib.ListN.{length}
use lib.Dec.{eqb, ltb}
use borrow.Author.Tests.{eqb-true, ltb-false, eq-eqb, ne_eqb}
use Rattle.std.specs.Prelude.{Ok}
use Rattle.octets.proofs.Cases.{eq_or_ne, true_or_false}
use Rattle.iso8211.specs.Record.{end_of}
use Rattle.iso8211.specs.File.{frame_of, record_at}
use Rattle.iso8211.proofs.Promise.{at_next, last_ends}
use Rattle.declarations.specs.Described.{described_of}
use Rattle.iso8211.specs.Field.{count_at, field_at, FieldsIn}
use Rattle.table.specs.Table.{DSSI, DSPM, VRID, FRID}
use Rattle.headvalues.specs.Dssi.{dssi_fault}
use Rattle.headvalues.specs.Dspm.{dspm_fault}
use Rattle.values.specs.Vrid.{vrid_fault}
use Rattle.values.specs.Frid.{frid_fault}
use Rattle.layout.specs.Layout.{layout_fault, start}
use Rattle.layout.specs.Record.{kind_at, content_at}
use Rattle.fieldvalue.specs.Value.{field_fault, seen_before, seen_after, values_from, value_fault}
use Rattle.answers.specs.Answer.{refusal}
use Rattle.chart.specs.Read.{next_stage, is_feature, passed_state, first_state, records_fault, read_fault}
use Rattle.answers.specs.declared.refusal.Refusal.{Refusal}
use Rattle.chart.specs.declared.read.State.{State}

-- a record whose layout and values are good, read as one of this stage and at these levels
pub record Good (update : Bool) (marks s : List ℕ) (at : ℕ) : Type 0 where
  pub state : State
  pub laid : layout_fault update state.stage marks s at ≡ 0
  pub valued : value_fault update state.aall state.nall s at ≡ 0

-- which kind of record stands where: record 1 is that of DSID, record 2 of a cell that of DSPM, all behind them are vectors and features
pub record StageAt (update : Bool) (k stage : ℕ) : Type 0 where
  pub dsid : k ≡ 1 → stage ≡ 0
  pub dspm : k ≡ 2 → update ≡ false → stage ≡ 1
  pub early : k ≡ 2 → update ≡ true → 2 ≤ stage
  pub items : 3 ≤ k → 2 ≤ stage
  pub due : stage ≡ 0 → k ≡ 1
  pub only : stage ≡ 1 → (k ≡ 2) × (update ≡ false)
  pub few : stage ≤ 3

stage_start : (update : Bool) → StageAt update 1 0
stage_start update = record {
  dsid = λ e. refl;
  dspm = λ e f. absurd (omega arith);
  early = λ e f. absurd (omega arith);
  items = λ h. absurd (omega arith);
  due = λ e. refl;
  only = λ e. absurd (omega arith);
  few = omega arith;
}

-- behind the record of DSID
stage_first : (update feature : Bool) → StageAt update 2 (next_stage update 0 feature)
unfolding next_stage
stage_first true feature = record {
  dsid = λ e. absurd (omega arith);
  dspm = λ e f. absurd (let z : ◌≡◌ {A = ℕ} 0 1 = cc in omega arith);
  early = λ e f. omega arith;
  items = λ h. absurd (omega arith);
  due = λ e. absurd (omega arith);
  only = λ e. absurd (omega arith);
  few = omega arith;
}
stage_first false feature = record {
  dsid = λ e. absurd (omega arith);
  dspm = λ e f. refl;
  early = λ e f. absurd (let z : ◌≡◌ {A = ℕ} 0 1 = cc in omega arith);
  items = λ h. absurd (omega arith);
  due = λ e. absurd (omega arith);
  only = λ e. (refl, refl);
  few = omega arith;
}

-- behind any other
next_two : (update : Bool) (stage : ℕ) (feature : Bool) → (stage ≡ 0 → ⊥) → 2 ≤ next_stage update stage feature
unfolding next_stage
next_two update stage true h = ⊎_elim (λ (e : stage ≡ 1). rw e (omega arith)) (λ (n : stage ≡ 1 → ⊥). rw (ne_eqb stage 0 h, ne_eqb stage 1 n) (omega arith)) (eq_or_ne stage 1)
next_two update stage false h = ⊎_elim (λ (e : stage ≡ 1). rw e (omega arith)) (λ (n : stage ≡ 1 → ⊥). rw (ne_eqb stage 0 h, ne_eqb stage 1 n) (omega arith)) (eq_or_ne stage 1)

next_few : (update : Bool) (stage : ℕ) (feature : Bool) → stage ≤ 3 → (stage ≡ 0 → ⊥) → next_stage update stage feature ≤ 3
unfolding next_stage
next_few update stage true few h = ⊎_elim (λ (e : stage ≡ 1). rw e (omega arith)) (λ (n : stage ≡ 1 → ⊥). rw (ne_eqb stage 0 h, ne_eqb stage 1 n) (omega arith)) (eq_or_ne stage 1)
next_few update stage false few h = ⊎_elim (λ (e : stage ≡ 1). rw e (omega arith)) (λ (n : stage ≡ 1 → ⊥). rw (ne_eqb stage 0 h, ne_eqb stage 1 n) few) (eq_or_ne stage 1)

stage_next : (update feature : Bool) (k stage : ℕ) → StageAt update k stage → 1 ≤ k → StageAt update (k + 1) (next_stage update stage feature)
stage_next update feature k stage at low =
    ⊎_elim (λ (z : stage ≡ 0). let e : k + 1 ≡ 2 = let q = at.due z in omega arith in rw (e, z) (stage_first update feature))
    (λ (n : stage ≡ 0 → ⊥).
    let later : k ≡ 1 → ⊥ = λ (e : k ≡ 1). n (at.dsid e) in
    let two = next_two update stage feature n in
    record {
      dsid = λ e. absurd (omega arith);
      dspm = λ e f. absurd (later (omega arith));
      early = λ e f. two;
      items = λ h. two;
      due = λ e. absurd (omega arith);
      only = λ e. absurd (omega arith);
      few = next_few update stage feature at.few n;
    })
    (eq_or_ne stage 0)

passed_stage : (update : Bool) (s : List ℕ) (at : ℕ) (st : State) (k : ℕ) → StageAt update k st.stage → 1 ≤ k → StageAt update (k + 1) (passed_state update s at st).stage
unfolding passed_state
passed_stage update s at st k stage low = stage_next update (is_feature s at) k st.stage stage low

-- out of an answer without a refusal
apart : (good fair : Bool) (a b : Refusal) (on : Refusal) → (a.code ≡ 0 → ⊥) → (b.code ≡ 0 → ⊥) → (cond good (cond fair on b) a).code ≡ 0 → (good ≡ true) × (fair ≡ true)
    × (on.code ≡ 0)
apart true true a b on ha hb h = (refl, refl, h)
apart true false a b on ha hb h = absurd (hb h)
apart false fair a b on ha hb h = absurd (ha h)

-- a record of the file, its stage, and the records behind
pub record Here (update : Bool) (marks s : List ℕ) (j : ℕ) : Type 0 where
  pub good : Good update marks s (record_at s j)
  pub stage : StageAt update j good.state.stage

good_from : (m : ℕ) (update : Bool) (marks s : List ℕ) (k at : ℕ) (st : State) → (records_fault m update marks s k at st).code ≡ 0 → at ≡ record_at s k
    → StageAt update k st.stage → 1 ≤ k
    → ((j : ℕ) → k ≤ j → j < k + m → Here update marks s j) × ((update ≡ false → 3 ≤ k + m) × (2 ≤ k + m))
unfolding records_fault
good_from zero update marks s k at st h e stage low =
    ⊎_elim (λ (t : ltb st.stage 2 ≡ true). let z : ◌≡◌ {A = ℕ} 5 0 = rw t at h in absurd (omega arith))
    (λ (t : ltb st.stage 2 ≡ false).
    let two : 2 ≤ st.stage = ltb-false _ _ t in (
      (λ j lo hi. absurd (omega arith)),
      (
        (λ (cell : update ≡ false).
            ⊎_elim (λ (one : k ≡ 1). let z = stage.dsid one in absurd (omega arith))
            (λ (n : k ≡ 1 → ⊥). ⊎_elim (λ (e2 : k ≡ 2). let z = stage.dspm e2 cell in absurd (omega arith)) (λ (n2 : k ≡ 2 → ⊥). omega arith) (eq_or_ne k 2)) (eq_or_ne k 1)),
        ⊎_elim (λ (one : k ≡ 1). let z = stage.dsid one in absurd (omega arith)) (λ (n : k ≡ 1 → ⊥). omega arith) (eq_or_ne k 1),
      ),
    ))
    (true_or_false (ltb st.stage 2))
good_from (suc m) update marks s k at st h e stage low =
    let l = layout_fault update st.stage marks s at in
    let v = value_fault update st.aall st.nall s at in
    let a = apart (eqb l 0) (eqb v 0) (refusal 5 k l) (refusal 6 k v) (records_fault m update marks s (k + 1) (end_of s at) (passed_state update s at st)) (λ z. omega arith)
    (λ z. omega arith) h in
    let next = good_from m update marks s (k + 1) (end_of s at) (passed_state update s at st) a.2 (at_next s k at e)
    (passed_stage update s at st k stage low) (omega arith) in
    let here : Here update marks s k = record { good = record { state = st; laid = rw (← e) (eqb-true _ _ a.0); valued = rw (← e) (eqb-true _ _ a.1) }; stage = stage } in (
      (λ j lo hi. ⊎_elim (λ (same : k ≡ j). rw same at here) (λ (n : k ≡ j → ⊥). next.0 j (omega arith) (omega arith)) (eq_or_ne k j)),
      ((λ (cell : update ≡ false). let r = next.1.0 cell in omega arith), let r = next.1.1 in omega arith),
    )

-- each record of a file in which nothing was refused; and how many records there are at the least
pub good_records : (update : Bool) (s : List ℕ) (n : ℕ) → frame_of s ≡ Ok n → (read_fault update s n).code ≡ 0
    → ((j : ℕ) → 1 ≤ j → j < n → Here update (described_of s) s j) × ((update ≡ false → 3 ≤ n) × (2 ≤ n))
unfolding read_fault
good_records update s n framed h =
    let some = (last_ends s n framed).0 in
    let sum : 1 + (n - 1) ≡ n = omega arith in
    ⊎_elim (λ (t : eqb (length (described_of s)) 0 ≡ true). let z : ◌≡◌ {A = ℕ} 4 0 = rw t at h in absurd (omega arith))
    (λ (t : eqb (length (described_of s)) 0 ≡ false).
    let r = good_from (n - 1) update (described_of s) s 1 (record_at s 1) first_state (rw t at h) refl (stage_start update) (omega arith) in
    rw sum at r)
    (true_or_false (eqb (length (described_of s)) 0))

-- ---- the fields of a record whose values are good
-- a field that is judged good, whatever labels its list had met
pub record Fair (update : Bool) (aall nall k : ℕ) (c : List ℕ) : Type 0 where
  pub seen : List ℕ
  pub none : field_fault update aall nall k seen c ≡ 0

fair_from : (n : ℕ) (update : Bool) (aall nall : ℕ) (s : List ℕ) (at i prev : ℕ) (seen : List ℕ) → FieldsIn s at → i + n ≤ count_at s at
    → values_from n update aall nall s at i prev seen ≡ 0
    → (j : ℕ) → i ≤ j → j < i + n → Fair update aall nall (kind_at s at j) (content_at s at j)
unfolding values_from
fair_from zero update aall nall s at i prev seen known fit h j lo hi = absurd (omega arith)
fair_from (suc n) update aall nall s at i prev seen known fit h j lo hi =
    let fault = field_fault update aall nall (kind_at s at i) (seen_before prev (kind_at s at i) seen) (content_at s at i) in
    ⊎_elim (λ (z : fault ≡ 0).
    ⊎_elim (λ (same : i ≡ j). rw (← same) (record { seen = seen_before prev (kind_at s at i) seen; none = z }))
    (λ (other : i ≡ j → ⊥). fair_from n update aall nall s at (i + 1) (kind_at s at i) (seen_after (kind_at s at i) (seen_before prev (kind_at s at i) seen) (content_at s at i)) known
    (omega arith)
    (rw (eq-eqb fault 0 z) at h) j (omega arith) (omega arith))
    (eq_or_ne i j))
    (λ (n : fault ≡ 0 → ⊥).
    let start : (field_at s at i).start + (fault - 1) ≡ 0 = rw (ne_eqb fault 0 n) at h in
    let after = (known.fields i (omega arith)).after in
    let low = known.headed.low in
    absurd (omega arith))
    (eq_or_ne fault 0)

pub fair : (update : Bool) (aall nall : ℕ) (s : List ℕ) (at : ℕ) → FieldsIn s at → value_fault update aall nall s at ≡ 0 → (j : ℕ) → j < count_at s at
    → Fair update aall nall (kind_at s at j) (content_at s at j)
unfolding value_fault
fair update aall nall s at known h j less = fair_from (count_at s at) update aall nall s at 0 start [] known (omega arith) h j (omega arith) (omega arith)

-- what that says of VRID, FRID, DSSI and DSPM
pub fair_vrid : {update : Bool} {aall nall : ℕ} (k : ℕ) {c : List ℕ} → k ≡ VRID → Fair update aall nall k c → vrid_fault update c ≡ 0
unfolding field_fault
fair_vrid k e f = rw e at f.none

pub fair_frid : {update : Bool} {aall nall : ℕ} (k : ℕ) {c : List ℕ} → k ≡ FRID → Fair update aall nall k c → frid_fault update c ≡ 0
unfolding field_fault
fair_frid k e f = rw e at f.none

pub fair_dssi : {update : Bool} {aall nall : ℕ} (k : ℕ) {c : List ℕ} → k ≡ DSSI → Fair update aall nall k c → dssi_fault update c ≡ 0
unfolding field_fault
fair_dssi k e f = rw e at f.none

pub fair_dspm : {update : Bool} {aall nall : ℕ} (k : ℕ) {c : List ℕ} → k ≡ DSPM → Fair update aall nall k c → dspm_fault c ≡ 0
unfolding field_fault
fair_dspm k e f = rw e at f.none
