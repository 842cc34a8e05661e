-- A control of the code, as `edits` takes it. It serves the proofs, and nothing here need be believed. Assumes nothing.
use Rattle.std.specs.Prelude as code
use Rattle.std.specs.Prelude.{◌≤◌, Some, None}
use Rattle.std.proofs.Math.Option.{Option, none, some}
use Rattle.edits.specs.Control as edits
use Rattle.splice.specs.declared.control.Control.{Control}

-- its numbers
abbrev pub numbers_of : Control → edits.Control
numbers_of c = record { instruction = c.instruction; index = c.index; count = c.count }

-- none where it doesn't stand
unfoldable pub option_of : code.Option Control → Option edits.Control
option_of None = none
option_of (Some c) = some (numbers_of c)

-- index and count are numbers of two bytes
pub record Given (c : Control) : Type 0 where
  pub low : c.index ≤ 65535
  pub few : c.count ≤ 65535
