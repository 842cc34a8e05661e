-- By unfolding.
use Rattle.items.specs.Word.{marked}
use Rattle.std.proofs.Common.{rules}
use Rattle.merge.proofs.turn.mark.Goals as goal

pub returns : goal.returns
unfolding marked
returns c = search rules
