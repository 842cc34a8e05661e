-- Without a control the list stays as it is.
use Rattle.std.proofs.Common.{rules}
use Rattle.splice.proofs.SpliceLaws.{spliced_no, spliced_without, spliced_allowed, spliced_with}
use Rattle.splice.proofs.list.put_spliced.Goals as goal

pub returns-then-not-list_allowed : goal.returns-then-not-list_allowed
returns-then-not-list_allowed c = search (rules, spliced_no)

pub put_edited-requires : goal.put_edited-requires
put_edited-requires c = (search rules, search rules, search (rules, spliced_allowed), search rules)

pub returns-in-Some : goal.returns-in-Some
returns-in-Some c = search (rules, spliced_with)

pub returns-in-None : goal.returns-in-None
returns-in-None c = search (rules, spliced_without)
