-- By unfolding.
use Rattle.merge.specs.Words.{deletes}
use Rattle.std.proofs.Common.{rules}
use Rattle.merge.proofs.turn.is_delete.Goals as goal

pub returns : goal.returns
unfolding deletes
returns c = search rules
