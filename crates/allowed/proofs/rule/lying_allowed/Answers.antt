use Rattle.std.proofs.Common.{rules}
use Rattle.amend.proofs.RuleLaws.{areas_five, areas_kept, paired_sides, allowed_kinds}
use Rattle.allowed.proofs.rule.lying_allowed.Goals as goal

pub plan_of-plan-requires : goal.plan_of-plan-requires
plan_of-plan-requires c = (search rules, search (rules, areas_five))

pub four_allowed-requires : goal.four_allowed-requires
four_allowed-requires c = (search (rules, paired_sides), search rules, search (rules, areas_kept), search rules)

pub returns : goal.returns
returns c = (search (rules, allowed_kinds), search rules)
