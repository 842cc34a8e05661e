-- Reading whole: from the bytes of a cell, or of a cell and an update, to "readable" or the one refusal. Assumes nothing.
use Rattle.std.specs.Prelude.{ℕ, ◌+◌, ◌*◌, true, false, cond, List, length, eqb, ltb, Result, Ok, Err}
use Rattle.iso8211.specs.File.{frame_of, record_at}
use Rattle.chart.specs.Read.{read_fault}
use Rattle.names.specs.Names.{twice_of}
use Rattle.counted.specs.Counts.{counts_good}
use Rattle.names.specs.declared.twice.Repeat.{Repeat}
use Rattle.answers.specs.Codes.{LONG, FRAME, WORK, TWICE, COUNTS, most_bytes, work_each}
use Rattle.answers.specs.Answer.{refusal, fine, answer, unrefused, filed}
use Rattle.answers.specs.First.{first_refusal, first_answer}
use Rattle.answers.specs.declared.refusal.Refusal.{Refusal}
use Rattle.answers.specs.declared.answer.Answer.{Answer}

-- ---- a file is opened
-- 2 Frame, "framing broken", "first bad record"; how many records there are else
unfoldable pub framed_front : ℕ → List ℕ → Result ℕ ℕ → Result ℕ Answer
framed_front file s (Ok n) = Ok n
framed_front file s (Err k) = Err (answer FRAME file k 0 (record_at s k))

-- 1 Long, "over 5,242,880 bytes", then 2
unfoldable pub front_of : ℕ → List ℕ → Result ℕ Answer
front_of file s = cond (ltb most_bytes (length s)) (Err (answer LONG file 0 0 0)) (framed_front file s (frame_of s))

-- what comes of a file that was refused, or of its number of records
unfoldable pub fronted : {A : Type 0} → (Answer → A) → (ℕ → A) → Result ℕ Answer → A
fronted refused on (Ok n) = on n
fronted refused on (Err a) = refused a

-- "cell 1, 2" or "update 1, 2" of this file, then what comes on, given the number of its records
abbrev pub opening : ℕ → List ℕ → (ℕ → Answer) → Answer
opening file s on = fronted (λ (a : Answer). a) on (front_of file s)

-- how many records a file has, 0 where it is too long or its framing is broken
unfoldable pub records_in : Result ℕ Answer → ℕ
records_in (Ok n) = n
records_in (Err a) = 0

-- of a cell
abbrev pub count_in : List ℕ → ℕ
count_in s = records_in (front_of 1 s)

-- ---- the stages of reading
-- 3 Work, "work area under 16 bytes a record of the files given", with the bytes needed: of w bytes for n records
unfoldable pub work_answer : ℕ → ℕ → Answer
work_answer w n = cond (ltb w (work_each * n)) (answer WORK 0 0 (work_each * n) 0) unrefused

-- 7 Twice, "a name met before in its file", "first repeat"
unfoldable pub twice_refusal : Repeat → Refusal
twice_refusal t = cond (eqb t.index 0) fine (refusal TWICE t.index t.offset)

-- 8 Counts, "DSSI counts differ from a cell's records", "1, 1"
unfoldable pub counts_refusal : List ℕ → ℕ → Refusal
counts_refusal s n = cond (counts_good s n) fine (refusal COUNTS 1 (record_at s 1))

-- "cell 4, then 5 before 6 record by record, 7, 8"
unfoldable pub cell_fault : List ℕ → ℕ → Refusal
cell_fault s n = first_refusal (read_fault false s n) (first_refusal (twice_refusal (twice_of false s n)) (counts_refusal s n))

-- "update 4, 5/6, 7"
unfoldable pub update_fault : List ℕ → ℕ → Refusal
update_fault s n = first_refusal (read_fault true s n) (twice_refusal (twice_of true s n))

-- "cell 4, .. 8; update 4, 5/6, 7"
abbrev pub both_fault : List ℕ → ℕ → List ℕ → ℕ → Answer
both_fault cell n update m = first_answer (filed 1 (cell_fault cell n)) (filed 2 (update_fault update m))

-- ---- framed files, with w bytes of work: 3, then these
unfoldable pub cell_checked : List ℕ → ℕ → ℕ → Answer
cell_checked cell w n = first_answer (work_answer w n) (filed 1 (cell_fault cell n))

unfoldable pub both_checked : List ℕ → List ℕ → ℕ → ℕ → ℕ → Answer
both_checked cell update w n m = first_answer (work_answer w (n + m)) (both_fault cell n update m)
