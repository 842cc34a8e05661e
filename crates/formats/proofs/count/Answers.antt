-- Whether a digit stands there decides.
use Rattle.formats.proofs.FormatsLaws.{count_absent, count_told}
use Rattle.std.proofs.Common.{rules}
use Rattle.formats.proofs.count.Goals as goal

pub returns-then-digit-gt9 : goal.returns-then-digit-gt9
returns-then-digit-gt9 c = search (rules, count_absent)

pub returns-else-digit-gt9 : goal.returns-else-digit-gt9
returns-else-digit-gt9 c = search (rules, count_told)
