-- The sizes of the parts, whatever the counts.
use Rattle.revisedfront.proofs.FrontLaws.{front_sized}
use Rattle.std.proofs.Common.{rules}
use Rattle.revisedfront.proofs.front.front_sizes.Goals as goal

pub returns : goal.returns
returns c = search (rules, front_sized)
