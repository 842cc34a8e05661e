-- No edge, and one pair.
use Rattle.topology.proofs.SeenLaws.{alone_no, alone_told}
use Rattle.std.proofs.Common.{rules}
use Rattle.topology.proofs.seen.node_alone.Goals as goal

pub returns-then-rank-eq2 : goal.returns-then-rank-eq2
returns-then-rank-eq2 c = search (rules, alone_no)

pub returns : goal.returns
returns c = search (rules, alone_told)
