-- Field 1 says it.
use Rattle.chart.proofs.ReadLaws.{feature_is}
use Rattle.chart.proofs.read.is_feature.Goals as goal

pub returns : goal.returns
returns c = feature_is _ _ _ _ c.field-f.ensures c.kind_of.ensures.0
