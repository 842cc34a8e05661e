use Rattle.records.proofs.HeadLaws.{rows_room, rows_more, rows_all}
use Rattle.octets.proofs.AreaLaws.{going_start}
use Rattle.std.proofs.Common.{arith}
use Rattle.records.proofs.head.put_rows.Goals as goal

pub loop-row-init : goal.loop-row-init
loop-row-init c = going_start _ _ _ (omega arith)

pub put_row-next-requires : goal.put_row-next-requires
put_row-next-requires c = rows_room _ _ _ _ c.loop-row-test.true c.loop-row.invariant c.requires.1

pub loop-row-preserved : goal.loop-row-preserved
loop-row-preserved c = rows_more _ _ _ _ c.loop-row-test.true c.loop-row.invariant c.put_row-next.ensures

pub returns : goal.returns
returns c = rows_all _ c.loop-row.row-index _ _ c.loop-row-test.false c.loop-row.invariant
