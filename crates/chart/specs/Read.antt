-- The reading of a file's records: layout before values, record by record. Assumes nothing.
use Rattle.std.specs.Prelude.{ℕ, zero, suc, ◌+◌, ◌-◌, Bool, cond, List, length, eqb, ltb}
use Rattle.iso8211.specs.Record.{end_of}
use Rattle.iso8211.specs.Field.{field_at}
use Rattle.iso8211.specs.File.{record_at}
use Rattle.table.specs.Table.{kind_of, FRID}
use Rattle.declarations.specs.Described.{described_of}
use Rattle.layout.specs.Layout.{layout_fault}
use Rattle.fieldvalue.specs.Value.{value_fault}
use Rattle.chart.specs.declared.read.State.{State}
use Rattle.layout.specs.General.{aall_at, nall_at}
use Rattle.answers.specs.Codes.{DESCRIBED, LAYOUT, VALUE}
use Rattle.answers.specs.Answer.{refusal, fine}
use Rattle.answers.specs.declared.refusal.Refusal.{Refusal}

-- "Cell: 0; then 0001 DSID DSSI; then 0001 DSPM; then vectors; then features. An update has no DSPM": which kind of record is due behind
-- one of this stage, `feature` telling whether that was a feature
unfoldable pub next_stage : Bool → ℕ → Bool → ℕ
next_stage update stage feature = cond (eqb stage 0) (cond update 2 1) (cond (eqb stage 1) 2 (cond feature 3 stage))

-- the record at `at` is a feature
unfoldable pub is_feature : List ℕ → ℕ → Bool
is_feature s at = eqb (kind_of (field_at s at 1).tag) FRID

-- what is known behind the record at `at`: the kind of record that is due, and the levels, those of the record of DSID and DSSI once it
-- is read
unfoldable pub passed_state : Bool → List ℕ → ℕ → State → State
passed_state update s at st = record {
  stage = next_stage update st.stage (is_feature s at);
  aall = cond (eqb st.stage 0) (aall_at s at) st.aall;
  nall = cond (eqb st.stage 0) (nall_at s at) st.nall;
}

abbrev pub first_state : State
first_state = record { stage = 0; aall = 0; nall = 0 }

-- "5 before 6 record by record": n records from record k, at `at`, on; where a record is missing that is due, it is Layout there
unfoldable pub records_fault : ℕ → Bool → List ℕ → List ℕ → ℕ → ℕ → State → Refusal
records_fault zero update marks s k at st = cond (ltb st.stage 2) (refusal LAYOUT k (length s)) fine
records_fault (suc n) update marks s k at st =
    cond (eqb (layout_fault update st.stage marks s at) 0)
    (cond (eqb (value_fault update st.aall st.nall s at) 0)
    (records_fault n update marks s (k + 1) (end_of s at) (passed_state update s at st))
    (refusal VALUE k (value_fault update st.aall st.nall s at)))
    (refusal LAYOUT k (layout_fault update st.stage marks s at))

-- code 4 first: a framed file of n records
unfoldable pub read_fault : Bool → List ℕ → ℕ → Refusal
read_fault update s n =
    cond (eqb (length (described_of s)) 0) (refusal DESCRIBED 0 0) (records_fault (n - 1) update (described_of s) s 1 (record_at s 1) first_state)
