use Rattle.declarations.proofs.DescribedLaws.{field_room, turn_unknown, turn_twice, turn_other, turn_on, turn_end}
use Rattle.std.proofs.Common.{rules}
use Rattle.described.proofs.rest.Goals as goal

pub returns-then-k-ge-FIRST : goal.returns-then-k-ge-FIRST
returns-then-k-ge-FIRST c = (search (rules, turn_unknown), search rules)

pub returns-then-marks-k-ne0 : goal.returns-then-marks-k-ne0
returns-then-marks-k-ne0 c = (search (rules, turn_twice), search rules)

pub describes_at-requires : goal.describes_at-requires
describes_at-requires c = search (rules, field_room)

pub returns-then-not-describes_at : goal.returns-then-not-describes_at
returns-then-not-describes_at c = (search (rules, turn_other), search rules)

pub loop-j-preserved : goal.loop-j-preserved
loop-j-preserved c = (search rules, search (rules, turn_on))

pub returns : goal.returns
returns c = (search (rules, turn_end), search rules)
