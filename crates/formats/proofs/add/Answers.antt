-- What stood behind the part is as it was.
use Rattle.formats.proofs.FormatsLaws.{added}
use Rattle.std.proofs.Common.{refl}
use Rattle.formats.proofs.add.Goals as goal

pub returns : goal.returns
returns c = (added c.requires.0 c.requires.1 c.requires.2 _ c.copy_from_slice.ensures.after _, refl)
