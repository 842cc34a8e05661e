-- A cell and an update that are readable, the update being the next of the cell. Nothing here need be believed. Assumes nothing.
use Rattle.std.specs.Prelude.{ℕ, ◌<◌, List, ◌≡◌}
use Rattle.octets.specs.Number.{byte_at}
use Rattle.reader.specs.Lent.{FileOpened}
use Rattle.reader.specs.Reader.{cell_fault, update_fault}
use Rattle.held.specs.Chart.{header_of}
use Rattle.changes.specs.Change.{change_of}
use Rattle.changes.specs.Follow.{follow_code}

pub record Following (cell : List ℕ) (n : ℕ) (update : List ℕ) (m : ℕ) : Type 0 where
  pub held : FileOpened cell n
  pub come : FileOpened update m
  pub cell_fine : (cell_fault cell n).code ≡ 0
  pub update_fine : (update_fault update m).code ≡ 0
  pub follows : follow_code (header_of cell) (change_of update m) ≡ 0

-- both are bytes
pub record Small (cell update : List ℕ) : Type 0 where
  pub old : (i : ℕ) → byte_at cell i < 256
  pub new : (i : ℕ) → byte_at update i < 256
