-- Two numbers between the ends. Assumes nothing.
use Rattle.header.proofs.PutLaws.{parts_told}
use Rattle.std.proofs.Common.{rules}
use Rattle.header.proofs.dsid.parts_of.Goals as goal

pub returns : goal.returns
returns c = search (rules, parts_told)
