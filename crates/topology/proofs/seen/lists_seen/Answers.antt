-- Its lists by one walk over its fields, its note and its verdict by them.
use Rattle.topology.proofs.SeenLaws.{seen_judged, seen_vector}
use Rattle.std.proofs.Common.{rules}
use Rattle.topology.proofs.seen.lists_seen.Goals as goal

pub vector_lying-requires : goal.vector_lying-requires
vector_lying-requires c = (search (rules, seen_vector), search rules, search rules)

pub returns : goal.returns
returns c = search (rules, seen_judged)
