-- The invariant: the area keeps its length.
use Rattle.std.proofs.Common.{◌≡◌, length}
use Rattle.probe.proofs.descriptions.put_items.Given as goal

abbrev pub invariant-loop-i : goal.invariant-loop-i
invariant-loop-i l = length l.out ≡ 128
