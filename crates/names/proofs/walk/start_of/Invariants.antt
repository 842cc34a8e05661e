-- The invariant: the record of this number starts here.
use Rattle.std.proofs.Common.{◌≡◌}
use Rattle.iso8211.specs.File.{record_at}
use Rattle.names.proofs.walk.start_of.Given as goal

abbrev pub invariant-loop : goal.invariant-loop
invariant-loop l = l.at ≡ record_at l.s l.counter
