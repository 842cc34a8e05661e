-- With and without a refusal.
use Rattle.answers.proofs.AnswerLaws.{filed_none, filed_some}
use Rattle.std.proofs.Common.{rules}
use Rattle.answers.proofs.answer.filed.Goals as goal

pub returns-then-code-eq0 : goal.returns-then-code-eq0
returns-then-code-eq0 c = search (rules, filed_none)

pub returns : goal.returns
returns c = search (rules, filed_some)
