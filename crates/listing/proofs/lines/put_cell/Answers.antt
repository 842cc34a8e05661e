-- The header and the lines, joined; the words in the work area are those of the cell in held order.
use Rattle.listingrows.proofs.ListingLaws.{order_room, lines_room, cell_listable, cell_wrote}
use Rattle.std.proofs.Common.{rules}
use Rattle.listing.proofs.lines.put_cell.Goals as goal

pub order-requires : goal.order-requires
order-requires c = search (rules, order_room)

pub put_lines-requires : goal.put_lines-requires
put_lines-requires c = (search (rules, cell_listable), search (rules, lines_room))

pub returns : goal.returns
returns c = search (rules, cell_wrote)
