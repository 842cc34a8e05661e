-- The cells that Judge and Admit accept, given what is lent: what demand 2 speaks of. Assumes nothing.
use Rattle.std.specs.Prelude.{ℕ, ◌*◌, ◌≤◌, List}
use Rattle.answers.specs.Codes.{work_each}
use Rattle.held.specs.Limits.{Fits}
use Rattle.reader.specs.Reader.{count_in}
use Rattle.loader.specs.Admit.{cell_chart}
use Rattle.demands.specs.Cell.{Readable, Room}
use Rattle.demands.specs.Sound.{Sound}

-- ---- Judge, with w bytes of work: none of the codes 1 to 8 and 17 to 19; "Judge stops before 20"
pub record Judgeable (s : List ℕ) (w : ℕ) : Type 0 where
  pub readable : Readable s
  pub sound : Sound (cell_chart s)
  pub work : work_each * count_in s ≤ w

-- ---- Admit, with w bytes of work and o of output: none of the codes 1 to 8 and 17 to 21
pub record Admissible (s : List ℕ) (w o : ℕ) : Type 0 where
  pub readable : Readable s
  pub sound : Sound (cell_chart s)
  pub limits : Fits (cell_chart s)
  pub areas : Room s w o
