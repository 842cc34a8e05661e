-- What is known of a cell that was judged, before its held form is written. It serves the proofs, and nothing here need be believed. Assumes nothing.
use Rattle.std.specs.Prelude.{ℕ, ◌*◌, ◌≤◌, List, ◌≡◌, length, Result, Ok}
use Rattle.answers.specs.Codes.{work_each}
use Rattle.answers.specs.Answer.{outcome}
use Rattle.answers.specs.declared.refusal.Refusal.{Refusal}
use Rattle.names.specs.Premises.{HeldIn}
use Rattle.reader.specs.Reader.{front_of}
use Rattle.judging.specs.Judge.{cell_verdict}

-- a cell of n records whose verdict is r; where r is Ok, the words of its items stand in the work area
pub record Settling (cell : List ℕ) (n : ℕ) (r : Result Unit Refusal) (work : List ℕ) : Type 0 where
  pub front : front_of 1 cell ≡ Ok n
  pub room : work_each * n ≤ length work
  pub is : r ≡ outcome (cell_verdict cell n)
  pub words : r ≡ Ok tt → HeldIn cell n work
