-- The bytes between the two ends, or as `joining` copies.
use Rattle.lying.proofs.LyingLaws.{lies_within, lies_room, lies_copied}
use Rattle.std.proofs.Common.{rules}
use Rattle.lying.proofs.lists.Lists.put.Goals as goal

pub slice_bounds-copy-end : goal.slice_bounds-copy-end
slice_bounds-copy-end c = search (rules, lies_within)

pub copy-requires : goal.copy-requires
copy-requires c = search (rules, lies_room)

pub returns : goal.returns
returns c = search (rules, lies_copied)
