use Rattle.std.proofs.Common.{rules}
use Rattle.amend.proofs.RuleLaws.{four_kind, four_no, four_on, four_end}
use Rattle.allowed.proofs.rule.four_allowed.Goals as goal

pub kind_allowed-requires : goal.kind_allowed-requires
kind_allowed-requires c = (search rules, search rules, search (rules, four_kind), search rules, search rules)

pub returns-then-not-kind_allowed : goal.returns-then-not-kind_allowed
returns-then-not-kind_allowed c = (search (rules, four_no), search rules)

pub loop-i-preserved : goal.loop-i-preserved
loop-i-preserved c = (search rules, search rules, search rules, search rules, search (rules, four_on))

pub returns : goal.returns
returns c = (search (rules, four_end), search rules)
