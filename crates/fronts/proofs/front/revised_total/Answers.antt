-- By the length of the result's DSID. Assumes nothing.
use Rattle.fronts.proofs.FrontLaws.{lent_known, revised_sized}
use Rattle.std.proofs.Common.{rules}
use Rattle.fronts.proofs.front.revised_total.Goals as goal

pub revised_size-size-requires : goal.revised_size-size-requires
revised_size-size-requires c = (search (rules, lent_known), search (rules, lent_known))

pub returns : goal.returns
returns c = search (rules, revised_sized)
