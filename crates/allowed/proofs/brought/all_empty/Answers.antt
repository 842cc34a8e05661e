-- Test by test.
use Rattle.allowed.proofs.BroughtLaws.{bytes}
use Rattle.allowed.proofs.brought.all_empty.Goals as goal

pub returns-then-total-ne0 : goal.returns-then-total-ne0
returns-then-total-ne0 c = search bytes depth 12

pub returns-then-total-ne0-2 : goal.returns-then-total-ne0-2
returns-then-total-ne0-2 c = search bytes depth 12

pub returns-then-total-ne0-3 : goal.returns-then-total-ne0-3
returns-then-total-ne0-3 c = search bytes depth 12

pub returns : goal.returns
returns c = search bytes depth 12
