-- The digits of the fewest are the number's text.
use Rattle.listingrows.proofs.TextLaws.{number_room, number_wrote}
use Rattle.std.proofs.Common.{rules}
use Rattle.listingrows.proofs.text.put_number.Goals as goal

pub put_digits-requires : goal.put_digits-requires
put_digits-requires c = search (rules, number_room)

pub returns : goal.returns
returns c = search (rules, number_wrote)
