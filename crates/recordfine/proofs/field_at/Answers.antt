-- The field is lent with its 1E.
use Rattle.recordfine.proofs.WalkLaws.{lent_ended}
use Rattle.std.proofs.Common.{rules}
use Rattle.recordfine.proofs.field_at.Goals as goal

pub field_fine-requires : goal.field_fine-requires
field_fine-requires c = (search (rules, lent_ended), search rules, search rules)
