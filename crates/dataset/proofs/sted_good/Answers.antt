use Rattle.dataset.proofs.DsidLaws.{sted_text}
use Rattle.dataset.proofs.sted_good.Goals as goal

pub returns : goal.returns
returns c = sted_text _ _ _ _ c.requires c.as_slice.ensures c.eq.ensures
