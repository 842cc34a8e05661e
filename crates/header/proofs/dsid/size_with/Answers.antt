-- The length of what is written, part by part. Assumes nothing.
use Rattle.header.proofs.PutLaws.{size_with}
use Rattle.std.proofs.Common.{rules}
use Rattle.header.proofs.dsid.size_with.Goals as goal

pub returns : goal.returns
returns c = search (rules, size_with)
