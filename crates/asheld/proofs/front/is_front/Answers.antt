-- By both halves.
use Rattle.asheld.proofs.FrontLaws.{front_no, front_by}
use Rattle.std.proofs.Common.{rules}
use Rattle.asheld.proofs.front.is_front.Goals as goal

pub returns-then-not-is_lead : goal.returns-then-not-is_lead
returns-then-not-is_lead c = search (rules, front_no)

pub returns : goal.returns
returns c = search (rules, front_by)
