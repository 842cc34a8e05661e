-- Refused in reading, or by the topology.
use Rattle.judging.proofs.JudgeLaws.{judged_filed, judged_refused}
use Rattle.readonce.proofs.CellLaws.{read_all, read_refused}
use Rattle.std.proofs.Common.{rules}
use Rattle.judging.proofs.judge.judged.Goals as goal

pub cell_verdict-requires : goal.cell_verdict-requires
cell_verdict-requires c = read_all _ c.cell_read.ensures (search rules)

pub returns-in-Err : goal.returns-in-Err
returns-in-Err c = judged_refused _ (read_refused _ c.cell_read.ensures (search rules))

pub returns-in-Ok : goal.returns-in-Ok
returns-in-Ok c =
    let so = read_all {n = c.in-Ok.n} _
    c.cell_read.ensures (search rules) in
    judged_filed _ _ c.cell_read.auto.work so c.cell_verdict.ensures.value c.answer_of.ensures
