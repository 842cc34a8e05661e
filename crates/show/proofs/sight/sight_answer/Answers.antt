-- By the two cases. Assumes nothing.
use Rattle.show.proofs.SightLaws.{shown_answer, denied_answer}
use Rattle.std.proofs.Common.{rules}
use Rattle.show.proofs.sight.sight_answer.Goals as goal

pub returns-in-Ok : goal.returns-in-Ok
returns-in-Ok c = search (rules, shown_answer)

pub returns-in-Err : goal.returns-in-Err
returns-in-Err c = search (rules, denied_answer)
