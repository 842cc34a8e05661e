-- A name that is found has no code.
use Rattle.quickvectors.proofs.VectorLaws.{held_told}
use Rattle.std.proofs.Common.{rules}
use Rattle.quickvectors.proofs.is_held.Goals as goal

pub returns : goal.returns
returns c = search (rules, held_told)
