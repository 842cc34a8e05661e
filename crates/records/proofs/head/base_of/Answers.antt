-- The base address follows from the two digit sizes. Assumes nothing.
use Rattle.records.proofs.HeadLaws.{base_is}
use Rattle.std.proofs.Common.{rules}
use Rattle.records.proofs.head.base_of.Goals as goal

pub returns : goal.returns
returns c = (search (rules, base_is), search rules)
