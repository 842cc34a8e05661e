-- One law for each way out; a cell that got 0 can be read.
use Rattle.listing.proofs.AnswerLaws.{judged, judged_index, list_long, list_judged}
use Rattle.std.proofs.Common.{rules}
use Rattle.listing.proofs.list.Goals as goal

pub returns-then-file-gt65536 : goal.returns-then-file-gt65536
returns-then-file-gt65536 c = search (rules, list_long)

pub put_answer-requires : goal.put_answer-requires
put_answer-requires c = search (rules, judged, judged_index)

pub returns : goal.returns
returns c = search (rules, list_judged)
