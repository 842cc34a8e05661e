-- The rules of all FSPT are the rules of those left.
use Rattle.std.proofs.Common.{◌-◌, ◌≡◌, take, drop}
use Rattle.std.specs.Slice.Iter.{chunks_exact_rest, chunks_exact_size}
use Rattle.quickfeatures.proofs.NameLaws.{Named}
use Rattle.quickfeatures.proofs.spatial.names_quick.Given as goal

abbrev pub invariant-loop-e : goal.invariant-loop-e
invariant-loop-e l =
    Named l.prim l.work l.m (take (l.to - l.from) (drop l.from l.s)) (chunks_exact_rest l.e-iterator) × (chunks_exact_size l.e-iterator ≡ 8)
