-- Shape, then both names.
use Rattle.quickvectors.proofs.VectorLaws.{ends_no, ends_told}
use Rattle.std.proofs.Common.{rules}
use Rattle.quickvectors.proofs.ends_held.Goals as goal

pub returns-then-not-ends_shaped : goal.returns-then-not-ends_shaped
returns-then-not-ends_shaped c = search (rules, ends_no)

pub returns-then-not-is_held : goal.returns-then-not-is_held
returns-then-not-is_held c = search (rules, ends_no)

pub returns : goal.returns
returns c = search (rules, ends_told)
