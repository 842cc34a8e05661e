-- By the test of t.
use Rattle.std.proofs.Common.{arith}
use Rattle.std.proofs.lemmas.Bool.Decides.{nat_tests}
use Rattle.itemrows.specs.Joined.{fields_of}
use Rattle.itemrows.proofs.rows.fields_of.Goals as goal

pub returns : goal.returns
unfolding fields_of
returns c = (grind (arith, nat_tests), grind (arith, nat_tests))
