-- A line of seven numbers of ten digits takes at most 80 bytes.
use Rattle.listingrows.proofs.ListingLaws.{item_room, item_wrote, item_end}
use Rattle.std.proofs.Common.{rules}
use Rattle.listing.proofs.lines.put_item.Goals as goal

pub put_line-requires : goal.put_line-requires
put_line-requires c = search (rules, item_room)

pub returns : goal.returns
returns c = (search (rules, item_wrote), search (rules, item_end))
