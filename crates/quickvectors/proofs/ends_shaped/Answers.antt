-- By the tests.
use Rattle.quickvectors.proofs.VectorLaws.{paired_no, paired_told}
use Rattle.std.proofs.Common.{rules}
use Rattle.quickvectors.proofs.ends_shaped.Goals as goal

pub returns-then-not-end_good : goal.returns-then-not-end_good
returns-then-not-end_good c = search (rules, paired_no)

pub returns-then-not-end_good-2 : goal.returns-then-not-end_good-2
returns-then-not-end_good-2 c = search (rules, paired_no)

pub returns : goal.returns
returns c = search (rules, paired_told)
