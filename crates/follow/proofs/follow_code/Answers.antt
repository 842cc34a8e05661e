-- DSID first, then the levels. Assumes nothing.
use Rattle.fronts.proofs.FrontLaws.{lent_known}
use Rattle.follow.proofs.FollowLaws.{dsid_inside, dsid_second, code_dsid, code_level, code_fine}
use Rattle.std.proofs.Common.{rules}
use Rattle.follow.proofs.follow_code.Goals as goal

pub content-requires : goal.content-requires
content-requires c = (search (rules, dsid_inside), search (rules, dsid_second))

pub content-requires-2 : goal.content-requires-2
content-requires-2 c = (search (rules, dsid_inside), search (rules, dsid_second))

pub dsid_code-code-requires : goal.dsid_code-code-requires
dsid_code-code-requires c = (search (rules, lent_known), search (rules, lent_known))

pub returns-then-code-ne0 : goal.returns-then-code-ne0
returns-then-code-ne0 c = search (rules, code_dsid)

pub returns-then-not-same_levels : goal.returns-then-not-same_levels
returns-then-not-same_levels c = search (rules, code_level)

pub returns : goal.returns
returns c = search (rules, code_fine)
