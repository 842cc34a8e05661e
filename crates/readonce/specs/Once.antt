-- What a pass over a file promises. It serves the proofs, and nothing here need be believed. Assumes nothing.
use Rattle.std.specs.Prelude.{ℕ, ◌+◌, ◌-◌, ◌*◌, ◌≤◌, Bool, true, false, List, ◌≡◌, length, Ok, Result, Err}
use Rattle.answers.specs.Codes.{most_bytes, work_each}
use Rattle.answers.specs.declared.answer.Answer.{Answer}
use Rattle.iso8211.specs.File.{frame_of, record_at}
use Rattle.attributes.specs.Premises.{Upto}
use Rattle.chart.specs.Read.{records_fault, first_state, read_fault}
use Rattle.chart.specs.Before.{ReadTo}
use Rattle.chart.specs.declared.read.Reached.{Reached}
use Rattle.chart.specs.declared.read.State.{State}
use Rattle.names.specs.Names.{first_item}
use Rattle.names.specs.NameWords.{words_from, name_words}
use Rattle.names.specs.Area.{Collected}
use Rattle.names.specs.Premises.{HeldIn}
use Rattle.reader.specs.Reader.{front_of, cell_fault}
use Rattle.reader.specs.Calls.{read_cell}
use Rattle.reader.specs.Lent.{StartedAt, FramedTo}
use Rattle.counted.specs.Tallies.{with_records}
use Rattle.counted.specs.declared.counts.Tally.{Tally}
use Rattle.readonce.specs.declared.pass.Passed.{Passed}

-- with the word of record k, at `at`, the area holds the words of the items up to it
pub record Kept (s : List ℕ) (at k first : ℕ) (before after : List ℕ) (r : Bool) : Type 0 where
  pub grown : r ≡ true → at ≡ record_at s k → (a : List ℕ) → Collected a (words_from (k - first) s (record_at s first)) (k - first) before
      → Collected a (words_from (k + 1 - first) s (record_at s first)) (k + 1 - first) after

-- the tally in which nothing is counted
abbrev pub no_tally : Tally
no_tally = record { meta = 0; geo = 0; collection = 0; isolated = 0; connected = 0; edges = 0 }

-- what a pass found
abbrev pub found_at : ℕ → Tally → ℕ → ℕ → State → Passed
found_at count tally index at known = record { count = count; tally = tally; reached = record { index = index; at = at; known = known } }

-- with record k, at `at`, the tally is that of the items up to it
pub record Counted (s : List ℕ) (at k first : ℕ) (before after : Tally) : Type 0 where
  pub grown : at ≡ record_at s k → before ≡ with_records no_tally (k - first) s (record_at s first) → after ≡ with_records no_tally (k + 1 - first) s (record_at s first)

-- what is known where the pass starts: record 0 is good, its marks are taken, and no label is stamped
pub record RecordsBefore (s : List ℕ) (start : ℕ) (marks t : List ℕ) : Type 0 where
  pub started : StartedAt s start
  pub twenty : length marks ≡ 20
  pub wide : length t ≡ 65536
  pub blank : Upto t 0

-- what is known where the pass came to: the records before are framed, and however many there are, the answer from there is the answer from record 1 on
pub record CameTo (update : Bool) (marks s : List ℕ) (from : Reached) : Type 0 where
  pub framed : FramedTo s from.index from.at
  pub read : (n : ℕ) → from.index ≤ n
      → records_fault (n - 1) update marks s 1 (record_at s 1) first_state ≡ records_fault (n - from.index) update marks s from.index from.at from.known

-- n records, those behind record 0 without a fault, their tally, and the words of the items in the file's order at the front of the area
pub record RecordsRead (update : Bool) (marks s : List ℕ) (n : ℕ) (t : Tally) (before after : List ℕ) : Type 0 where
  pub framed : frame_of s ≡ Ok n
  pub none : (records_fault (n - 1) update marks s 1 (record_at s 1) first_state).code ≡ 0
  pub tally : t ≡ with_records no_tally (n - first_item update) s (record_at s (first_item update))
  pub words : Collected before (name_words update s n) (n - first_item update) after

-- r has the number of such records, or 0, and where the pass came to
pub record RecordsTold (update : Bool) (marks s before after : List ℕ) (r : Passed) : Type 0 where
  pub told : (r.count ≡ 0 → ⊥) → RecordsRead update marks s r.count r.tally before after
  pub came : CameTo update marks s r.reached

-- a file of n records without any of the codes 1, 2, 4, 5 and 6, their tally, and the words of its items in the file's order
pub record FileRead (update : Bool) (s : List ℕ) (n : ℕ) (t : Tally) (before after : List ℕ) : Type 0 where
  pub framed : frame_of s ≡ Ok n
  pub short : length s ≤ most_bytes
  pub none : (read_fault update s n).code ≡ 0
  pub tally : t ≡ with_records no_tally (n - first_item update) s (record_at s (first_item update))
  pub words : Collected before (name_words update s n) (n - first_item update) after

-- the records before the one that comes next are framed, and have no fault if record 0 has none
pub record PassedTo (update : Bool) (s : List ℕ) (from : Reached) : Type 0 where
  pub framed : FramedTo s from.index from.at
  pub read : (n : ℕ) → from.index ≤ n → ReadTo update s n from

pub record FileTold (update : Bool) (s before after : List ℕ) (r : Passed) : Type 0 where
  pub told : (r.count ≡ 0 → ⊥) → FileRead update s r.count r.tally before after
  pub passed : PassedTo update s r.reached

-- ---- a cell
-- the pass read it to the end, and there is room for its words
pub record AllPassed (s : List ℕ) (n : ℕ) (t : Tally) (work : List ℕ) : Type 0 where
  pub before : List ℕ
  pub read : FileRead false s n t before work
  pub room : work_each * n ≤ length work

-- p is what the pass found
pub record CellPassed (s : List ℕ) (p : Passed) (work : List ℕ) : Type 0 where
  pub before : List ℕ
  pub short : length s ≤ most_bytes
  pub told : FileTold false s before work p

-- and it has n records, and room for their words
pub record CellOpened (s : List ℕ) (n : ℕ) (p : Passed) (work : List ℕ) : Type 0 where
  pub passed : CellPassed s p work
  pub framed : frame_of s ≡ Ok n
  pub room : work_each * n ≤ length work

-- a cell of n records without any of the codes 1 to 8, and the words of its items in held order
pub record CellRead (s : List ℕ) (n : ℕ) (work : List ℕ) : Type 0 where
  pub front : front_of 1 s ≡ Ok n
  pub room : work_each * n ≤ length work
  pub fine : (cell_fault s n).code ≡ 0
  pub words : HeldIn s n work

-- a is the answer to a cell that has one of them, with w bytes of work
pub record CellRefused (s : List ℕ) (w : ℕ) (a : Answer) : Type 0 where
  pub is : a ≡ read_cell s w
  pub code : a.code ≡ 0 → ⊥

pub record CellTold (s : List ℕ) (w : ℕ) (work : List ℕ) (r : Result ℕ Answer) : Type 0 where
  pub all : (n : ℕ) → r ≡ Ok n → CellRead s n work
  pub refused : (a : Answer) → r ≡ Err a → CellRefused s w a
