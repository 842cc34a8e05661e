-- The invariant: what waits fits the area.
use Rattle.std.proofs.Common.{◌≤◌}
use Rattle.frames.proofs.put_record.Given as goal

abbrev pub invariant-loop-j : goal.invariant-loop-j
invariant-loop-j l = l.next ≤ 4096
