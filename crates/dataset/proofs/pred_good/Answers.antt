use Rattle.dataset.proofs.DsidLaws.{pred_text}
use Rattle.dataset.proofs.pred_good.Goals as goal

pub returns : goal.returns
returns c = pred_text _ _ _ _ _ c.requires.0 c.requires.1 c.as_slice.ensures c.eq.ensures
