use Rattle.std.proofs.Common.{◌∙◌}
use Rattle.formats.proofs.FormatsLaws.{formats_same}
use Rattle.formats.proofs.same_formats.Goals as goal

pub returns : goal.returns
returns c = c.eq.ensures ∙ formats_same _ _ _ _ _ _ c.used.ensures.0 c.used-2.ensures.0
