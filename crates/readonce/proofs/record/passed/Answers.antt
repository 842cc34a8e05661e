-- By the stage, and among the items by the kind.
use Rattle.readonce.proofs.ItemLaws.{passed_dspm, passed_feature, passed_vector}
use Rattle.std.proofs.Common.{rules}
use Rattle.readonce.proofs.record.passed.Goals as goal

pub returns-then-stage-eq0 : goal.returns-then-stage-eq0
returns-then-stage-eq0 c = c.headed.ensures _ c.if-stage-eq0.true

pub returns-then-stage-eq1 : goal.returns-then-stage-eq1
returns-then-stage-eq1 c = search (rules, passed_dspm)

pub returns-then-kind-eq-FRID : goal.returns-then-kind-eq-FRID
returns-then-kind-eq-FRID c = search (rules, passed_feature)

pub returns : goal.returns
returns c = search (rules, passed_vector)
