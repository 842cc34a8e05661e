use Rattle.std.proofs.Common.{length-set, zero-mul, add-zero, arith, ◌≤◌, ◌<◌, length}
use Rattle.std.proofs.lemmas.List.{length-take-le, take-append-le}
use Rattle.iso8211.proofs.DirectoryLaws.{batch_more, batch_all, rows_none, row_room, row_next}
use Rattle.iso8211.proofs.directory.batch.Goals as goal

pub loop-row-init : goal.loop-row-init
loop-row-init c = (length-take-le _ _ (omega arith), rw (zero-mul, add-zero), rows_none _ _ _ _)

pub row_at-requires : goal.row_at-requires
row_at-requires c = (
  c.requires.0,
  (c.requires.1.0, rw c.loop-row.invariant.1 (row_room _ _ _ _ _ (omega arith) c.requires.1.1.1)),
)

pub overflow_add-at-in-loop-row-2 : goal.overflow_add-at-in-loop-row-2
overflow_add-at-in-loop-row-2 c =
    let less : c.loop-row.row-index < c.args.n = omega arith in
    omega (arith, row_room _ _ _ _ _ less c.requires.1.1.1)

pub loop-row-preserved : goal.loop-row-preserved
loop-row-preserved c = (
  simp length-set (omega arith),
  row_next _ _ _ _ c.loop-row.invariant.1,
  batch_more _ _ _ _ _ _ _ _ (omega arith)
      c.loop-row.invariant.1 c.loop-row.invariant.2 c.row_at.ensures.0,
)

pub returns : goal.returns
returns c =
    let done : c.args.n ≤ length c.loop-row.row-items = omega arith in
    rw (take-append-le _ _ _ done) (batch_all _ _ _ _ _ _ _ (omega arith) (omega arith) c.loop-row.invariant.2)
