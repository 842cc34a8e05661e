-- One test a way out.
use Rattle.recordfine.proofs.WalkLaws.{row_so}
use Rattle.std.proofs.Common.{rules}
use Rattle.recordfine.proofs.row.row_fine.Goals as goal

pub returns : goal.returns
returns c = search (rules, row_so)
