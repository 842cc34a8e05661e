-- One law for each way out.
use Rattle.listing.proofs.AnswerLaws.{answer_refused, answer_broken, answer_lines, answer_readable}
use Rattle.std.proofs.Common.{rules}
use Rattle.listing.proofs.put_answer.Goals as goal

pub returns-then-code-ne0 : goal.returns-then-code-ne0
returns-then-code-ne0 c = search (rules, answer_refused)

pub returns-in_default : goal.returns-in_default
returns-in_default c = search (rules, answer_broken)

pub put_cell-requires : goal.put_cell-requires
put_cell-requires c = search (rules, answer_readable)

pub returns : goal.returns
returns c = search (rules, answer_lines)
