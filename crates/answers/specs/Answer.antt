-- A refusal of a file, and an answer of a call. Assumes nothing.
use Rattle.std.specs.Prelude.{ℕ, cond, eqb, Result, Ok, Err}
use Rattle.answers.specs.declared.refusal.Refusal.{Refusal}
use Rattle.answers.specs.declared.answer.Answer.{Answer}

-- a refusal: its code in document 01's table, the record, and the byte of the file; the code 0: none
abbrev pub refusal : ℕ → ℕ → ℕ → Refusal
refusal code index offset = record { code = code; index = index; offset = offset }

abbrev pub fine : Refusal
fine = record { code = 0; index = 0; offset = 0 }

-- an answer: the code, the file (0 none, 1 cell, 2 update, 3 result), the record, the number, and the byte of the file
abbrev pub answer : ℕ → ℕ → ℕ → ℕ → ℕ → Answer
answer code file index number offset = record { code = code; file = file; index = index; number = number; offset = offset }

-- what a stage answers that finds nothing to refuse: "0 done: 0, 0"
abbrev pub unrefused : Answer
unrefused = record { code = 0; file = 0; index = 0; number = 0; offset = 0 }

-- a refusal of this file; code 0 has file, record and number 0
unfoldable pub filed : ℕ → Refusal → Answer
filed file r = cond (eqb r.code 0) unrefused (answer r.code file r.index 0 r.offset)

-- ---- how the code tells what a stage refuses: Ok where it is nothing
unfoldable pub outcome : Refusal → Result Unit Refusal
outcome r = cond (eqb r.code 0) (Ok tt) (Err r)

-- the answer to it
unfoldable pub answer_of : ℕ → Result Unit Refusal → Answer
answer_of file (Ok u) = unrefused
answer_of file (Err r) = answer r.code file r.index 0 r.offset
