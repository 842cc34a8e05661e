-- The invariant: what waits fits the area.
use Rattle.std.proofs.Common.{◌≤◌}
use Rattle.frames.proofs.text.put_bytes.Given as goal

abbrev pub invariant-loop-b : goal.invariant-loop-b
invariant-loop-b l = l.next ≤ 4096
