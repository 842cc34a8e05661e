-- The word has the rank of its record's class.
use Rattle.std.proofs.Common.{arith, rules}
use Rattle.topology.proofs.NotesLaws.{stands_ranked}
use Rattle.topology.proofs.seen.seen_of.Goals as goal

pub seen_at-requires : goal.seen_at-requires
seen_at-requires c = (
  stands_ranked (search rules) (λ i. omega (arith, c.type_inv.s i)),
  search rules,
  search rules,
)
