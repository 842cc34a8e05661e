-- The levels, then both kinds of counts. Assumes nothing.
use Rattle.header.proofs.PutLaws.{dssi_put}
use Rattle.std.proofs.Common.{rules}
use Rattle.header.proofs.dssi.put_dssi.Goals as goal

pub returns : goal.returns
returns c = search (rules, dssi_put)
