use Rattle.std.proofs.Common.{rules}
use Rattle.amend.proofs.RuleLaws.{plan_picked}
use Rattle.amend.proofs.lists.put_kind.Goals as goal

pub put_edited-requires : goal.put_edited-requires
put_edited-requires c = (search rules, search (rules, plan_picked), search rules, search rules)
