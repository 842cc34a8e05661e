-- As many bytes as lie between the two ends, or as `joining` counts.
use Rattle.lying.proofs.LyingLaws.{lies_few, lies_total}
use Rattle.std.proofs.Common.{rules}
use Rattle.lying.proofs.lists.Lists.total.Goals as goal

pub between-requires : goal.between-requires
between-requires c = (search rules, search (rules, lies_few))

pub returns : goal.returns
returns c = (search (rules, lies_total), search rules)
