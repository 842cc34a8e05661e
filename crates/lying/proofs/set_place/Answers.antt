-- Two numbers, which are not one.
use Rattle.lying.proofs.LyingLaws.{set_told}
use Rattle.std.proofs.Common.{rules}
use Rattle.lying.proofs.set_place.Goals as goal

pub returns : goal.returns
returns c = search (rules, set_told)
