-- The part that is lent is the field.
use Rattle.declarations.proofs.DescribedLaws.{describes_part}
use Rattle.std.proofs.Common.{rules}
use Rattle.declarations.proofs.field.describes_at.Goals as goal

pub returns : goal.returns
returns c = search (rules, describes_part)
