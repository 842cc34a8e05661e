use Rattle.lying.proofs.LyingLaws.{zeros}
use Rattle.std.proofs.Common.{rules}
use Rattle.lying.proofs.lists.Lists.of.Goals as goal

pub lie-requires : goal.lie-requires
lie-requires c = (search rules, search (rules, zeros))
