-- Two pairs. Assumes nothing.
use Rattle.header.proofs.PutLaws.{vectors_put}
use Rattle.std.proofs.Common.{rules}
use Rattle.header.proofs.dssi.put_vectors.Goals as goal

pub returns : goal.returns
returns c = search (rules, vectors_put)
