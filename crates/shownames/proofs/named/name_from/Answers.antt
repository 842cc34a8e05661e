-- The definition, computed. Assumes nothing.
use Rattle.items.specs.Identity.{name_from}
use Rattle.std.proofs.Common.{rules}
use Rattle.shownames.proofs.named.name_from.Goals as goal

pub returns : goal.returns
unfolding name_from
returns c = (search rules, search rules)
