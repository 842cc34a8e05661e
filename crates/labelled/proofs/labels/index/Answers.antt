use Rattle.std.proofs.Common.{rules}
use Rattle.labelled.proofs.TableLaws.{indexing_start, indexing_on, indexing_end}
use Rattle.labelled.proofs.labels.index.Goals as goal

pub loop-n-init : goal.loop-n-init
loop-n-init c = (search rules, search rules, search (rules, indexing_start))

pub loop-n-preserved : goal.loop-n-preserved
loop-n-preserved c =
    let e = c.in-Some.ensures in
    (search rules, search rules, indexing_on c.loop-n.invariant.2 _ e.size e.some e.within _ e.told e.low)

pub returns : goal.returns
returns c = search (rules, indexing_end)
