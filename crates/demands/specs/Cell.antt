-- A readable cell, without a work area: what demand 2 speaks of. What it means is `cell_chart`. Assumes nothing.
use Rattle.std.specs.Prelude.{ℕ, ◌*◌, ◌≤◌, ◌<◌, List, ◌≡◌, length, Ok}
use Rattle.octets.specs.Number.{byte_at}
use Rattle.answers.specs.Codes.{work_each}
use Rattle.reader.specs.Reader.{front_of, count_in, cell_fault}
use Rattle.held.specs.Held.{held_of}
use Rattle.loader.specs.Admit.{cell_chart}

-- a file is bytes
pub record Bytes (s : List ℕ) : Type 0 where
  pub small : (i : ℕ) → byte_at s i < 256

-- a cell that passes codes 1, 2 and 4 to 8
pub record Readable (s : List ℕ) : Type 0 where
  pub opened : front_of 1 s ≡ Ok (count_in s)
  pub fine : (cell_fault s (count_in s)).code ≡ 0

-- the areas suffice: w bytes of work, o of output
pub record Room (s : List ℕ) (w o : ℕ) : Type 0 where
  pub work : work_each * count_in s ≤ w
  pub output : length (held_of (cell_chart s)) ≤ o
