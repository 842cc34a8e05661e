-- Test by test.
use Rattle.allowed.proofs.BroughtLaws.{bytes}
use Rattle.allowed.proofs.brought.no_control.Goals as goal

pub returns-then-total-ne0 : goal.returns-then-total-ne0
returns-then-total-ne0 c = search bytes depth 12

pub returns : goal.returns
returns c = search bytes depth 12
