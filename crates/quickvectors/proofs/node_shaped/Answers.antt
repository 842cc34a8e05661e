-- By the sizes.
use Rattle.quickvectors.proofs.VectorLaws.{node_no, node_paired, node_sounded}
use Rattle.std.proofs.Common.{rules}
use Rattle.quickvectors.proofs.node_shaped.Goals as goal

pub returns-then-ends : goal.returns-then-ends
returns-then-ends c = search (rules, node_no)

pub returns-then-paired-eq8 : goal.returns-then-paired-eq8
returns-then-paired-eq8 c = search (rules, node_paired)

pub returns-then-paired-ne0 : goal.returns-then-paired-ne0
returns-then-paired-ne0 c = search (rules, node_no)

pub returns-then-rcnm-ne110 : goal.returns-then-rcnm-ne110
returns-then-rcnm-ne110 c = search (rules, node_no)

pub returns : goal.returns
returns c = search (rules, node_sounded)
