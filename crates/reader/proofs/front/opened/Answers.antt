-- Refused at record 0, or framed from record 1 on.
use Rattle.reader.proofs.FrontLaws.{start_framed, start_answer}
use Rattle.std.proofs.Common.{rules}
use Rattle.reader.proofs.front.opened.Goals as goal

pub opened_from-requires : goal.opened_from-requires
opened_from-requires c = start_framed _ c.started.ensures _ (search rules)

pub returns-in_err-at : goal.returns-in_err-at
returns-in_err-at c = search (rules, start_answer)
