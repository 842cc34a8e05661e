use Rattle.std.proofs.Common.{rules}
use Rattle.rebuild.proofs.PuttingLaws.{kind_fits, edited_given, edited_none, edited_last, edited_put, edited_least, edited_most}
use Rattle.rebuild.proofs.record.put_edited_field.Goals as goal

pub put_kind-requires : goal.put_kind-requires
put_kind-requires c = (search rules, search rules, search rules, search rules, search (rules, kind_fits))

pub unwrap-end-requires : goal.unwrap-end-requires
unwrap-end-requires c = search (rules, edited_given)

pub returns-then-end-place : goal.returns-then-end-place
returns-then-end-place c = (search (rules, edited_none), search rules, search rules, search rules)

pub put1-requires : goal.put1-requires
put1-requires c = search (rules, edited_last)

pub returns : goal.returns
returns c = (search (rules, edited_put), search (rules, edited_least), search (rules, edited_most), search rules)
