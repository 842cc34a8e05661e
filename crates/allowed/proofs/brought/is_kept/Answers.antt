-- A removal is one byte, 7F, between the label and the closing 1F.
use Rattle.allowed.proofs.BroughtLaws.{kept_long, kept_not, kept_other}
use Rattle.std.proofs.Common.{rules}
use Rattle.allowed.proofs.brought.is_kept.Goals as goal

pub returns-then-e-ne4 : goal.returns-then-e-ne4
returns-then-e-ne4 c = search (rules, kept_long)

pub returns-then-e-eq127 : goal.returns-then-e-eq127
returns-then-e-eq127 c = search (rules, kept_not)

pub returns : goal.returns
returns c = search (rules, kept_other)
