use Rattle.fieldparts.proofs.SameLaws.{same_pointwise}
use Rattle.std.proofs.Common.{◌∙◌}
use Rattle.fieldparts.proofs.descriptive.same.Goals as goal

pub returns : goal.returns
returns c = c.eq.ensures ∙ same_pointwise _ _
