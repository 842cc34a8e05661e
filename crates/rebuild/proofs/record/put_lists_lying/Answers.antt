use Rattle.std.proofs.Common.{rules}
use Rattle.rebuild.proofs.PuttingLaws.{editable_paired, lists_kinds}
use Rattle.amend.proofs.RuleLaws.{areas_five, areas_kept}
use Rattle.rebuild.proofs.record.put_lists_lying.Goals as goal

pub plan_of-plan-requires : goal.plan_of-plan-requires
plan_of-plan-requires c = (search (rules, editable_paired), search (rules, areas_five))

pub put_edited_lists-requires : goal.put_edited_lists-requires
put_edited_lists-requires c = (search rules, search rules, search (rules, areas_kept), search rules)

pub returns : goal.returns
returns c = (search (rules, lists_kinds), search rules)
