-- By the field's kind.
use Rattle.std.proofs.Common.{arith, rules}
use Rattle.items.proofs.ListsLaws.{field_some}
use Rattle.joining.proofs.PartLaws.{part_long, part_most, part_short}
use Rattle.joining.proofs.lists.part_size.Goals as goal

pub overflow_sub-result : goal.overflow_sub-result
overflow_sub-result c = search (rules, field_some)

pub returns-then-kind_of-k : goal.returns-then-kind_of-k
returns-then-kind_of-k c = (search (rules, part_long), search (rules, part_most))

pub returns : goal.returns
returns c = (search (rules, part_short), omega arith)
