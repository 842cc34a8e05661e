-- Each letter is one test of the definition.
use Rattle.std.proofs.Common.{arith}
use Rattle.std.proofs.lemmas.Bool.Decides.{nat_tests}
use Rattle.formats.specs.Formats.{is_letter}
use Rattle.formats.proofs.is_letter.Goals as goal

pub returns-in_default : goal.returns-in_default
unfolding is_letter
returns-in_default c = grind (arith, nat_tests)

pub returns-in_default-2 : goal.returns-in_default-2
unfolding is_letter
returns-in_default-2 c = grind (arith, nat_tests)

pub returns-in-65 : goal.returns-in-65
unfolding is_letter
returns-in-65 c = grind (arith, nat_tests)

pub returns-in-65-2 : goal.returns-in-65-2
unfolding is_letter
returns-in-65-2 c = grind (arith, nat_tests)
