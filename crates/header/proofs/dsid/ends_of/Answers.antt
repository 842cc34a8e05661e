-- The ends with what is known of them. Assumes nothing.
use Rattle.header.proofs.PutLaws.{ends_known}
use Rattle.std.proofs.Common.{rules}
use Rattle.header.proofs.dsid.ends_of.Goals as goal

pub returns : goal.returns
returns c = (search rules, search (rules, ends_known))
