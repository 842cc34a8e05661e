-- A file that reads as an update, what it is on a chart, and the areas that Apply takes: what demand 2 speaks of. What it means is `file_change`, what it makes of a chart
-- `updated_by`. Assumes nothing.
use Rattle.std.specs.Prelude.{ℕ, ◌+◌, ◌*◌, ◌≤◌, List, ◌≡◌, length, Ok}
use Rattle.answers.specs.Codes.{work_each}
use Rattle.reader.specs.Reader.{front_of, count_in, update_fault}
use Rattle.held.specs.Chart.{Chart}
use Rattle.held.specs.Held.{held_of}
use Rattle.held.specs.Limits.{Fits}
use Rattle.changes.specs.Rules.{Acceptable}
use Rattle.loader.specs.Admit.{cell_chart}
use Rattle.loader.specs.Apply.{changes_in, file_change, updated_by}
use Rattle.demands.specs.Sound.{Sound}

-- an update that passes codes 1, 2 and 4 to 7
pub record ReadableUpdate (file : List ℕ) : Type 0 where
  pub opened : front_of 2 file ≡ Ok (changes_in file)
  pub fine : (update_fault file (changes_in file)).code ≡ 0

-- ---- a file that may be worked into a chart: it is readable, follows and keeps the rules of updates, and its result keeps those of topology and the limits:
-- none of the codes 1, 2, 4 to 7 and 9 to 20
pub record Allowed (c : Chart) (file : List ℕ) : Type 0 where
  pub reads : ReadableUpdate file
  pub rules : Acceptable c (file_change file)
  pub result : Sound (updated_by c file)
  pub limits : Fits (updated_by c file)

-- the areas suffice: w bytes of work, "16 bytes a record of the files given", and o of output
pub record Areas (cell file : List ℕ) (w o : ℕ) : Type 0 where
  pub work : work_each * (count_in cell + changes_in file) ≤ w
  pub output : length (held_of (updated_by (cell_chart cell) file)) ≤ o
