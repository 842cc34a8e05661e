-- What is known before a record is passed, and before the records from one on are read. It serves the proofs, and nothing here need be believed. Assumes nothing.
use Rattle.std.specs.Prelude.{ℕ, ◌-◌, ◌≤◌, Bool, List, ◌≡◌, length, Ok}
use Rattle.table.specs.Table.{kind_count}
use Rattle.answers.specs.Codes.{most_bytes}
use Rattle.iso8211.specs.Field.{count_at}
use Rattle.iso8211.specs.Premises.{RecordIn}
use Rattle.iso8211.specs.File.{frame_of, record_at}
use Rattle.attributes.specs.Premises.{Upto}
use Rattle.declarations.specs.Described.{described_of}
use Rattle.layout.specs.Record.{content_at}
use Rattle.chart.specs.Read.{first_state, records_fault, read_fault}
use Rattle.chart.specs.declared.read.Reached.{Reached}

-- what is known of a record that was laid out, to read what is known behind it
pub record RecordPassed (s : List ℕ) (at stage : ℕ) : Type 0 where
  pub known : RecordIn s at
  pub two : 2 ≤ count_at s at
  pub dssi : stage ≡ 0 → (3 ≤ count_at s at) × (3 ≤ length (content_at s at 2))

-- record 1 comes next, at `at`
abbrev pub start_at : ℕ → Reached
start_at at = record { index = 1; at = at; known = first_state }

-- what is known where the records are read: a framed file of n records, which of them comes next, the marks of record 0, and a table without stamps
pub record BeforeRecords (s : List ℕ) (n : ℕ) (from : Reached) (marks t : List ℕ) : Type 0 where
  pub framed : frame_of s ≡ Ok n
  pub short : length s ≤ most_bytes
  pub low : 1 ≤ from.index
  pub high : from.index ≤ n
  pub place : from.at ≡ record_at s from.index
  pub all : length marks ≡ kind_count
  pub wide : length t ≡ 65536
  pub blank : Upto t 0

-- the records before the one that comes next have no fault: if record 0 has none, the answer from there is the answer of the file
pub record ReadTo (update : Bool) (s : List ℕ) (n : ℕ) (from : Reached) : Type 0 where
  pub low : 1 ≤ from.index
  pub high : from.index ≤ n
  pub place : from.at ≡ record_at s from.index
  pub is : (length (described_of s) ≡ 0 → ⊥) → read_fault update s n ≡ records_fault (n - from.index) update (described_of s) s from.index from.at from.known
