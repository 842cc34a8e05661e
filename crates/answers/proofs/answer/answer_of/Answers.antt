-- With and without a refusal.
use Rattle.answers.proofs.OutcomeLaws.{answer_fine, answer_refused}
use Rattle.answers.proofs.answer.answer_of.Goals as goal

pub returns-in-Ok : goal.returns-in-Ok
returns-in-Ok c = answer_fine _ c.in-Ok.is c.answered.ensures

pub returns-in-Err : goal.returns-in-Err
returns-in-Err c = answer_refused _ c.in-Err.is c.of_refusal.ensures
