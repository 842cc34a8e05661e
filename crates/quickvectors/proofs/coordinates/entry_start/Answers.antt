-- An entry that is counted lies within the bytes.
use Rattle.std.proofs.Common.{arith, rules}
use Rattle.quickvectors.proofs.CoordinateLaws.{count_room, entry_room, entry_below}
use Rattle.quickvectors.proofs.coordinates.entry_start.Goals as goal

pub overflow_mul-result : goal.overflow_mul-result
overflow_mul-result c = omega (arith, count_room _ _ _ c.requires.0 c.requires.1)

pub returns : goal.returns
returns c = (search rules, search (rules, entry_room), search (rules, entry_below))
