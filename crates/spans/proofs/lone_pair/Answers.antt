-- Where all tests hold, the walk has one turn.
use Rattle.spans.proofs.SpanLaws.{lone_no, lone_told}
use Rattle.std.proofs.Common.{rules}
use Rattle.spans.proofs.lone_pair.Goals as goal

pub returns-then-r-ne3 : goal.returns-then-r-ne3
returns-then-r-ne3 c = search (rules, lone_no)

pub returns-then-f-ne-SG2D : goal.returns-then-f-ne-SG2D
returns-then-f-ne-SG2D c = search (rules, lone_no)

pub returns : goal.returns
returns c = search (rules, lone_told)
