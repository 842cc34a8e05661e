-- By the kind of the list, then by its entries.
use Rattle.std.proofs.Common.{rules}
use Rattle.allowed.proofs.AddsLaws.{adds_not, adds_by}
use Rattle.allowed.proofs.rule.adds_alone.Goals as goal

pub returns-then-not-is_attributes : goal.returns-then-not-is_attributes
returns-then-not-is_attributes c = search (rules, adds_not)

pub returns : goal.returns
returns c = search (rules, adds_by)
