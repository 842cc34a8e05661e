-- With the update's UPDN. Assumes nothing.
use Rattle.header.proofs.PutLaws.{revised_sized}
use Rattle.std.proofs.Common.{rules}
use Rattle.header.proofs.dsid.revised_size.Goals as goal

pub returns : goal.returns
returns c = (search (rules, revised_sized), search rules)
