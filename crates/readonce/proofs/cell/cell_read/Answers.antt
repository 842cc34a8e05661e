-- Refused at record 0, or read from record 1 on.
use Rattle.readonce.proofs.CellLaws.{told_start, started_at}
use Rattle.std.proofs.Common.{rules}
use Rattle.std.proofs.lemmas.Result.{err_from_is_err_and}
use Rattle.readonce.proofs.cell.cell_read.Goals as goal

pub read_from-requires : goal.read_from-requires
read_from-requires c = started_at 1 _ c.started.ensures (search rules)

pub returns-in_err-at : goal.returns-in_err-at
returns-in_err-at c =
    let p = err_from_is_err_and c.from_residual.result c.from_residual.ensures.1 in
    rw (p.1, p.2) (told_start _ _ _ c.started.ensures c.in_err-at.was)
