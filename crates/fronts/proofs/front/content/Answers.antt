-- What is lent is the field without its 1E. Assumes nothing.
use Rattle.fronts.proofs.FrontLaws.{content_lent, content_few}
use Rattle.std.proofs.Common.{rules}
use Rattle.fronts.proofs.front.content.Goals as goal

pub returns : goal.returns
returns c = (search (rules, content_lent), search (rules, content_few))
