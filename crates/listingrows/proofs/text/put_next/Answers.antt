-- The tab and the number, joined.
use Rattle.listingrows.proofs.TextLaws.{next_room, next_wrote}
use Rattle.std.proofs.Common.{rules}
use Rattle.listingrows.proofs.text.put_next.Goals as goal

pub put_number-requires : goal.put_number-requires
put_number-requires c = search (rules, next_room)

pub returns : goal.returns
returns c = search (rules, next_wrote)
