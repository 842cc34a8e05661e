-- The three areas are as long as they have to be, and the table is zero. Assumes nothing.
use Rattle.resultstages.proofs.MergeLaws.{rooms_made}
use Rattle.std.proofs.Common.{rules}
use Rattle.amending.proofs.amended_apart.Goals as goal

pub amended-requires : goal.amended-requires
amended-requires c = (
  search rules,
  rooms_made c.wide_join-join.ensures
      c.blank_table-table.ensures c.wide_room-room.ensures,
)
