use Rattle.std.proofs.Common.{rules}
use Rattle.rebuild.proofs.PuttingLaws.{putting_start, editable_sides, editable_kind, editable_allowed, putting_room, putting_high, putting_on, putting_end}
use Rattle.rebuild.proofs.record.put_edited_lists.Goals as goal

pub loop-i-init : goal.loop-i-init
loop-i-init c = (search (rules, putting_start), search rules)

pub put_edited_field-end-requires : goal.put_edited_field-end-requires
put_edited_field-end-requires c = (
  search (rules, editable_sides),
  search rules,
  search (rules, editable_kind),
  search (rules, editable_allowed),
  search rules,
  search (rules, putting_room),
)

pub content_size-requires : goal.content_size-requires
content_size-requires c = (search rules, search (rules, putting_high))

pub loop-i-preserved : goal.loop-i-preserved
loop-i-preserved c = (search (rules, putting_on), search rules)

pub returns : goal.returns
returns c = (search (rules, putting_end), search rules)
