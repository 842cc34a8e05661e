use Rattle.std.proofs.Common.{rules}
use Rattle.amend.proofs.EditLaws.{ready_labels, ready_two, put_labels, put_control}
use Rattle.amend.proofs.lists.put_joined.Goals as goal

pub put_attributes-requires : goal.put_attributes-requires
put_attributes-requires c = (search (rules, ready_labels), search rules, search rules)

pub returns-then-is_attributes : goal.returns-then-is_attributes
returns-then-is_attributes c = (search (rules, put_labels), search rules)

pub put_spliced-requires : goal.put_spliced-requires
put_spliced-requires c = (search (rules, ready_two), search rules, search rules)

pub returns : goal.returns
returns c = (search (rules, put_control), search rules)
