-- Each way out by the tests that led there; the last with the number read.
use Rattle.std.proofs.Common.{rules}
use Rattle.octets.proofs.Tests.{tests}
use Rattle.values.specs.Rule.{digits_within}
use Rattle.values.proofs.RuleLaws.{digits_told}
use Rattle.values.proofs.rule.digits_within.Goals as goal

pub returns-then-n-lt1 : goal.returns-then-n-lt1
unfolding digits_within
returns-then-n-lt1 c = search tests

pub returns-then-width-n : goal.returns-then-width-n
unfolding digits_within
returns-then-width-n c = search tests

pub returns : goal.returns
returns c = search (rules, digits_told)
