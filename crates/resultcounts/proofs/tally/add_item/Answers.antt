-- The mark says where the record stands, changed or not.
use Rattle.resultcounts.proofs.TallyLaws.{ranked_new, counted_new, ranked_kept, counted_kept}
use Rattle.std.proofs.Common.{rules}
use Rattle.resultcounts.proofs.tally.add_item.Goals as goal

pub add_record-requires : goal.add_record-requires
add_record-requires c = (search rules, search (rules, ranked_new))

pub returns-then-a-eq1 : goal.returns-then-a-eq1
returns-then-a-eq1 c = search (rules, counted_new)

pub add_record-requires-2 : goal.add_record-requires-2
add_record-requires-2 c = (search rules, search (rules, ranked_kept))

pub returns : goal.returns
returns c = search (rules, counted_kept)
