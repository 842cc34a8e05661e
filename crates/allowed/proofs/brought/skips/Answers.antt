-- By the field's kind.
use Rattle.std.proofs.Common.{rules}
use Rattle.allowed.proofs.BroughtLaws.{skips_no, skips_so}
use Rattle.allowed.proofs.brought.skips.Goals as goal

pub returns-then-kind-i : goal.returns-then-kind-i
returns-then-kind-i c = (skips_no _ _ _ _, skips_no _ _ _ _, skips_no _ _ _ _)

pub returns-then-kind-j : goal.returns-then-kind-j
returns-then-kind-j c = (skips_no _ _ _ _, skips_no _ _ _ _, skips_no _ _ _ _)

pub returns-then-kind-k : goal.returns-then-kind-k
returns-then-kind-k c = (skips_no _ _ _ _, skips_no _ _ _ _, skips_no _ _ _ _)

pub returns : goal.returns
returns c = (search (rules, skips_so), search (rules, skips_so), search (rules, skips_so))
