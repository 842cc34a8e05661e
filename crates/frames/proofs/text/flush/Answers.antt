-- The bytes that wait are as many as is said.
use Rattle.std.proofs.Common.{arith, length-take}
use Rattle.frames.proofs.text.flush.Goals as goal

pub slice_bounds-write_all-end : goal.slice_bounds-write_all-end
slice_bounds-write_all-end c = simp length-take (omega arith)
