use Rattle.std.proofs.Common.{rules}
use Rattle.amend.proofs.RuleLaws.{class_same, planned_for}
use Rattle.amend.proofs.plan.plan_of.Goals as goal

pub controls_of-both-requires : goal.controls_of-both-requires
controls_of-both-requires c = (search rules, search (rules, class_same), search rules, search rules, search rules, search rules, search rules)

pub returns : goal.returns
returns c = search (rules, planned_for)
