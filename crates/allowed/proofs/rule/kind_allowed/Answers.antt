-- Attributes that only come may; else the answer of the writer is the verdict.
use Rattle.std.proofs.Common.{rules}
use Rattle.amend.proofs.RuleLaws.{kind_room, verdict_put}
use Rattle.allowed.proofs.AddsLaws.{adds_allowed}
use Rattle.allowed.proofs.rule.kind_allowed.Goals as goal

pub returns-then-adds_alone : goal.returns-then-adds_alone
returns-then-adds_alone c = (search (rules, adds_allowed), search rules)

pub put_kind-requires : goal.put_kind-requires
put_kind-requires c = (
  search rules,
  search rules,
  search rules,
  search rules,
  search (rules, kind_room),
)

pub returns : goal.returns
returns c = (search (rules, verdict_put), search rules)
