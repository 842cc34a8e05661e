-- Two pairs. Assumes nothing.
use Rattle.header.proofs.PutLaws.{features_put}
use Rattle.std.proofs.Common.{rules}
use Rattle.header.proofs.dssi.put_features.Goals as goal

pub returns : goal.returns
returns c = (search (rules, features_put), search rules)
