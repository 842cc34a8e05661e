-- Each test is the definition's, in its order; the fields behind 0001 are those of the definition's walk.
use Rattle.declarations.proofs.DescribedLaws.{field_room, few_fields, zeroth_other, one_other, one_wrong, rest_left}
use Rattle.std.proofs.Common.{rules}
use Rattle.described.proofs.described.Goals as goal

pub returns-then-head-lt2 : goal.returns-then-head-lt2
returns-then-head-lt2 c = (search (rules, few_fields), search rules)

pub returns-then-zero-ne-ZERO : goal.returns-then-zero-ne-ZERO
returns-then-zero-ne-ZERO c = (search (rules, zeroth_other), search rules)

pub returns-then-one-ne-FIRST : goal.returns-then-one-ne-FIRST
returns-then-one-ne-FIRST c = (search (rules, one_other), search rules)

pub describes_at-requires : goal.describes_at-requires
describes_at-requires c = field_room _ 1 _ _ c.requires
    c.head_of-head.ensures.count c.if-head-lt2.false
    c.field-one.ensures

pub returns-then-not-describes_at : goal.returns-then-not-describes_at
returns-then-not-describes_at c = (search (rules, one_wrong), search rules)

pub returns : goal.returns
returns c = (search (rules, rest_left), search rules)
