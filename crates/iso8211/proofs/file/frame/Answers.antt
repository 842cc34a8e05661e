use Rattle.std.proofs.Common.{arith}
use Rattle.iso8211.proofs.FileLaws.{frame_start, frame_broken, frame_done, frame_past, frame_on}
use Rattle.iso8211.proofs.file.frame.Goals as goal

pub loop-end-init : goal.loop-end-init
loop-end-init c = (omega arith, omega arith, frame_start _)

pub overflow_add-result : goal.overflow_add-result
overflow_add-result c = omega arith

pub returns-then-end-file : goal.returns-then-end-file
returns-then-end-file c = frame_done _ _ _ c.loop-end.invariant.2 _ c.in-Some.ensures.0 c.if-end-file.true

pub loop-end-smaller : goal.loop-end-smaller
loop-end-smaller c = omega (arith, c.in-Some.ensures.1, frame_past _ _ _ c.loop-end.invariant.2 _ c.in-Some.ensures.0)

pub loop-end-preserved : goal.loop-end-preserved
loop-end-preserved c = (
  omega (arith, frame_past _ _ _ c.loop-end.invariant.2 _ c.in-Some.ensures.0),
  c.in-Some.ensures.1,
  frame_on _ _ _ c.loop-end.invariant.2 _ c.in-Some.ensures.0 c.if-end-file.false (omega arith) c.in-Some.ensures.1,
)

pub returns : goal.returns
returns c = frame_broken _ _ _ c.loop-end.invariant.2 c.in_default.ensures.0
