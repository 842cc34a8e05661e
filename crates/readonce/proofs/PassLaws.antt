-- Laws of the pass: what is known between two records, and one law for each way through a turn. Assumes nothing.
use Prim.Native.Nat.{ℕ, ◌+◌, ◌-◌, ◌≤◌, ◌<◌}
use mathlib.Core.Bool.{Bool, true, false, not, cond}
use mathlib.Core.List.{List}
use mathlib.Core.Path.{◌≡◌, refl, sym, ap, ◌∙◌}
use native.Mathlib.Nat.{le_refl}
use native.Mathlib.Omega.{arith}
use lib.ListN.{length}
use lib.Dec.{eqb}
use borrow.Author.Tests.{eqb-true, eqb-false, not-false}
use Rattle.iso8211.specs.Premises.{RecordIn}
use Rattle.iso8211.specs.File.{record_at}
use Rattle.iso8211.proofs.FileLaws.{end_past}
use Rattle.iso8211.proofs.Promise.{good_in}
use Rattle.attributes.specs.Premises.{Upto}
use Rattle.declarations.specs.Described.{described_of}
use Rattle.layout.specs.Record.{kind_at}
use Rattle.std.specs.Prelude.{Ok}
use Rattle.values.proofs.FaultLaws.{place_ok}
use Rattle.fieldvalue.specs.Judged.{RecordJudged}
use Rattle.items.specs.Identity.{id_at}
use Rattle.items.specs.Premises.{Identified}
use Rattle.answers.specs.Answer.{refusal}
use Rattle.answers.specs.declared.refusal.Refusal.{Refusal}
use Rattle.chart.specs.Read.{next_stage, is_feature, passed_state, first_state, records_fault, read_fault}
use Rattle.chart.specs.Before.{RecordPassed, start_at}
use Rattle.chart.specs.declared.read.Reached.{Reached}
use Rattle.chart.specs.declared.read.State.{State}
use Rattle.chart.proofs.ReadLaws.{Reading, reading_start, reading_on, reading_end, passing_of, marks_some, read_start, read_first}
use Rattle.names.specs.Names.{first_item}
use Rattle.names.specs.NameWords.{words_from, name_words}
use Rattle.names.specs.Area.{Collected}
use Rattle.names.proofs.CollectLaws.{holds_none}
use Rattle.chart.proofs.Promise.{Good}
use Rattle.counted.specs.Tallies.{with_records, AtMost}
use Rattle.counted.specs.declared.counts.Tally.{Tally}
use Rattle.counted.proofs.CountsLaws.{records_none, records_most}
use Rattle.reader.specs.Lent.{StartedAt, FramedTo}
use Rattle.reader.proofs.FrontLaws.{framed_start, framed_next}
use Rattle.reader.proofs.ReaderLaws.{identified}
use Rattle.recordfine.specs.Told.{FineTold}
use Rattle.recordfine.specs.declared.Fine.{Fine}
use Rattle.readonce.specs.Once.{Kept, Counted, no_tally, found_at, RecordsBefore, CameTo, RecordsRead, RecordsTold, FileTold}
use Rattle.readonce.specs.declared.pass.Passed.{Passed}

-- ---- which record is due: that of DSID is record 1, and from the first item on it is a vector or a feature
pub record Staged (update : Bool) (k stage : ℕ) : Type 0 where
  pub due : stage ≡ 0 → k ≡ 1
  pub items : first_item update ≤ k → 2 ≤ stage
  pub few : stage ≤ 3

first_low : (update : Bool) → 2 ≤ first_item update
unfolding first_item
first_low true = omega arith
first_low false = omega arith

first_two : (update : Bool) → first_item update ≤ 2 → update ≡ true
unfolding first_item
first_two true h = refl
first_two false h = absurd (omega arith)

few_of : (a u b f : Bool) (stage : ℕ) → stage ≤ 3 → cond a (cond u 2 1) (cond b 2 (cond f 3 stage)) ≤ 3
few_of true true b f stage h = omega arith
few_of true false b f stage h = omega arith
few_of false u true f stage h = omega arith
few_of false u false true stage h = omega arith
few_of false u false false stage h = h

two_of : (a u b f : Bool) (stage : ℕ) → (a ≡ true → u ≡ true) → (a ≡ false → b ≡ false → 2 ≤ stage) → 2 ≤ cond a (cond u 2 1) (cond b 2 (cond f 3 stage))
two_of true true b f stage h g = omega arith
two_of true false b f stage h g = absurd (let e = h refl in let z : ◌≡◌ {A = ℕ} 0 1 = cc in omega arith)
two_of false u true f stage h g = omega arith
two_of false u false true stage h g = omega arith
two_of false u false false stage h g = g refl refl

some_of : (a u b f : Bool) (stage : ℕ) → (a ≡ false → 1 ≤ stage) → 1 ≤ cond a (cond u 2 1) (cond b 2 (cond f 3 stage))
some_of true true b f stage h = omega arith
some_of true false b f stage h = omega arith
some_of false u true f stage h = omega arith
some_of false u false true stage h = omega arith
some_of false u false false stage h = h refl

staged_start : (update : Bool) → Staged update 1 0
staged_start update = record { due = λ e. refl; items = λ h. let low = first_low update in absurd (omega arith); few = omega arith }

staged_next : (update feature : Bool) (k stage : ℕ) → Staged update k stage → 1 ≤ k → Staged update (k + 1) (next_stage update stage feature)
unfolding next_stage
staged_next update feature k stage at low =
    let some = some_of (eqb stage 0) update (eqb stage 1) feature stage (λ (e : eqb stage 0 ≡ false). let z : stage ≡ 0 → ⊥ = eqb-false stage 0 e in omega arith) in
    record {
      due = λ e. absurd (omega arith);
      items = λ h. two_of (eqb stage 0) update (eqb stage 1) feature stage
          (λ (e : eqb stage 0 ≡ true). let one = at.due (eqb-true stage 0 e) in first_two update (omega arith))
          (λ (e : eqb stage 0 ≡ false) (g : eqb stage 1 ≡ false).
          let z : stage ≡ 0 → ⊥ = eqb-false stage 0 e in
          let y : stage ≡ 1 → ⊥ = eqb-false stage 1 g in
          omega arith);
      few = few_of (eqb stage 0) update (eqb stage 1) feature stage at.few;
    }

staged_on : (update : Bool) (s : List ℕ) (at k : ℕ) (st next : State) → Staged update k st.stage → 1 ≤ k → next ≡ passed_state update s at st
    → Staged update (k + 1) next.stage
unfolding passed_state
staged_on update s at k st next so low is = rw is (staged_next update (is_feature s at) k st.stage so low)

most_more : {m n : ℕ} {t : Tally} → m ≤ n → AtMost m t → AtMost n t
most_more few most = record {
  meta_few = let x = most.meta_few in omega arith;
  geo_few = let x = most.geo_few in omega arith;
  collection_few = let x = most.collection_few in omega arith;
  isolated_few = let x = most.isolated_few in omega arith;
  connected_few = let x = most.connected_few in omega arith;
  edges_few = let x = most.edges_few in omega arith;
}

-- ---- between two records: how many records there are is still open, so the answer is known for every number of them
pub record Passing (update : Bool) (marks s area t now : List ℕ) (c : Tally) (k at : ℕ) (st : State) : Type 0 where
  pub framed : FramedTo s k at
  pub reading : (n : ℕ) → k ≤ n → Reading update marks s (records_fault (n - 1) update marks s 1 (record_at s 1) first_state) n t k at st
  pub staged : Staged update k st.stage
  pub tally : c ≡ with_records no_tally (k - first_item update) s (record_at s (first_item update))
  pub kept : Collected area (words_from (k - first_item update) s (record_at s (first_item update))) (k - first_item update) now

pub passing_start : (update : Bool) (marks s area t : List ℕ) (c : Tally) (start : ℕ) → RecordsBefore s start marks t → c ≡ no_tally
    → Passing update marks s area t area c 1 start first_state
passing_start update marks s area t c start so zero =
    let framed = framed_start so.started in
    let below = framed.below in
    let two = first_low update in
    let none : 1 - first_item update ≡ 0 = omega arith in
    record {
      framed = framed;
      reading = λ n h. reading_start update marks s n t start so.started.ends (omega arith) so.blank;
      staged = staged_start update;
      tally = rw none (zero ∙ sym (records_none no_tally s (record_at s (first_item update))));
      kept = rw none (holds_none s (record_at s (first_item update)) area);
    }

module _ {update : Bool} {marks s area t now : List ℕ} {c : Tally} {k at : ℕ} {st : State} (so : Passing update marks s area t now c k at st) (f : Fine) {after : List ℕ}
    (told : FineTold update st.stage marks st.aall st.nall s at t after f) (some : f.end ≡ 0 → ⊥) where
  turn_record : RecordIn s at
  turn_record = good_in false s at (told.good some)

  -- what is asked to go on from it
  pub turn_passed : RecordPassed s at st.stage
  turn_passed = passing_of update st.stage marks s at turn_record (told.laid some)

  pub turn_kind : f.kind ≡ kind_at s at 1
  turn_kind = told.kinded some

  -- what is asked to keep its word
  pub turn_id : f.id ≡ id_at s at
  turn_id = told.starts some

  pub turn_known : (first : ℕ) → first ≡ first_item update → first ≤ k → Identified s at
  turn_known first is low =
      let fine : Good update marks s at = record { state = st; laid = told.laid some; valued = told.valued some (so.reading k (le_refl k)).upto } in
      identified turn_record fine (so.staged.items (rw (← is) low)) so.staged.few

  pub turn_past : at < f.end
  turn_past = let past = end_past false s at (told.good some) in let end = told.ends some in omega arith

  -- what is asked to count it
  pub turn_few : length s ≤ 5242880 → AtMost 5242880 c
  turn_few short =
      let most = records_most (k - first_item update) s (record_at s (first_item update)) in
      let few : k - first_item update ≤ 5242880 = let below = so.framed.below in let fits = so.framed.fits in omega arith in
      rw so.tally (most_more few most)

  judged : RecordJudged update st.aall st.nall s at t after (Ok tt)
  judged = record { fault = λ u. place_ok (told.valued some u); upto = told.upto some; within = tt }

  pub turn_on : at < length s → (first : ℕ) → first ≡ first_item update → {later : List ℕ} {r : Bool} → Kept s at k first now later r → not r ≡ false
      → {d : Tally} → Counted s at k first c d → (next : State) → next ≡ passed_state update s at st → Passing update marks s area after later d (k + 1) f.end next
  turn_on inside first is {later} {r} kept room {d} counted next moved =
      record {
        framed = framed_next so.framed inside f.end (told.good some) (told.ends some) told.within;
        reading = λ n h. reading_on (so.reading n (omega arith)) (omega arith) (told.laid some) judged refl next f.end moved (told.ends some);
        staged = staged_on update s at k st next so.staged so.framed.low moved;
        tally = (rw is at counted).grown so.framed.place so.tally;
        kept = (rw is at kept).grown (not-false r room) so.framed.place area so.kept;
      }

-- ---- the end of the file
module _ {update : Bool} {marks s area t now : List ℕ} {c : Tally} {k at : ℕ} {st : State} (so : Passing update marks s area t now c k at st) where
  passing_end : length s ≤ at → 2 ≤ st.stage → RecordsRead update marks s k c area now
  unfolding name_words
  passing_end all two =
      let fits = so.framed.fits in
      record {
        framed = so.framed.done (omega arith);
        none = ap (λ (r : Refusal). r.code) (sym (reading_end (so.reading k (le_refl k)) (le_refl k) (refusal 0 0 0) two refl));
        tally = so.tally;
        words = so.kept;
      }

  -- where the pass came to
  came : CameTo update marks s (record { index = k; at = at; known = st })
  came = record { framed = so.framed; read = λ n h. (so.reading n h).is }

  pub records_all : (r : Passed) → length s ≤ at → 2 ≤ st.stage → r ≡ found_at k c k at st → RecordsTold update marks s area now r
  records_all r all two is = rw is (record { told = λ some. passing_end all two; came = came })

  pub records_not : {later : List ℕ} {d : Tally} (r : Passed) → r ≡ found_at 0 d k at st → RecordsTold update marks s area later r
  records_not r is = rw is (record { told = λ some. absurd (some refl); came = came })

-- ---- file_once
pub file_described : {s : List ℕ} {start : ℕ} → StartedAt s start → RecordIn s 0
file_described {s} so = good_in true s 0 so.good

-- record 0 isn't described
pub file_not : {update : Bool} {s area now : List ℕ} {start : ℕ} {t : Tally} (from : Reached) (r : Passed) → StartedAt s start → from ≡ start_at start
    → r ≡ found_at 0 t from.index from.at from.known → FileTold update s area now r
file_not {update} {s} {start = start} from r so is found = rw (found, is) (record {
  told = λ some. absurd (some refl);
  passed = record { framed = framed_start so; read = λ n h. read_first update s n start (start_at start) h so.ends refl };
})

pub before_records : (s : List ℕ) (start : ℕ) (marks t : List ℕ) → StartedAt s start → length marks ≡ 20 → (length t ≡ 65536) × Upto t 0 → RecordsBefore s start marks t
before_records s start marks t so twenty blank = record { started = so; twenty = twenty; wide = blank.0; blank = blank.1 }

pub file_told : {update : Bool} {s area now : List ℕ} {start : ℕ} (marks : List ℕ) (r : Passed) → StartedAt s start → marks ≡ described_of s → length marks ≡ 20
    → RecordsTold update marks s area now r → FileTold update s area now r
file_told {update} {s} marks r started same twenty so =
    let some = marks_some s marks same twenty in
    let from_start : (n : ℕ) → read_fault update s n ≡ records_fault (n - 1) update marks s 1 (record_at s 1) first_state = λ n. rw same (read_start update s n some) in
    record {
      told = λ there.
          let all = so.told there in
          record {
            framed = all.framed;
            short = started.short;
            none = ap (λ (q : Refusal). q.code) (from_start r.count) ∙ all.none;
            tally = all.tally;
            words = all.words;
          };
      passed = record {
        framed = so.came.framed;
        read = λ n h. record {
          low = so.came.framed.low;
          high = h;
          place = so.came.framed.place;
          is = λ there. rw (← same) (from_start n ∙ so.came.read n h);
        };
      };
    }
