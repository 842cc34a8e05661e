-- Both places lie within the field, so that they fit 32 bits each.
use Rattle.std.proofs.Common.{arith}
use Rattle.probe.proofs.CutLaws.{cut_few}
use Rattle.probe.proofs.probe_cut.Goals as goal

pub overflow_mul-result : goal.overflow_mul-result
overflow_mul-result c = let few = cut_few _ _ c.cut-parts.ensures in omega arith

pub overflow_add-result : goal.overflow_add-result
overflow_add-result c = let few = cut_few _ _ c.cut-parts.ensures in omega arith
