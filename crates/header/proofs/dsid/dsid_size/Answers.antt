-- With its own UPDN. Assumes nothing.
use Rattle.header.proofs.PutLaws.{dsid_sized}
use Rattle.std.proofs.Common.{rules}
use Rattle.header.proofs.dsid.dsid_size.Goals as goal

pub returns : goal.returns
returns c = (search (rules, dsid_sized), search rules)
