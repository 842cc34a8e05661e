use Rattle.std.proofs.Common.{arith, rules}
use Rattle.listingrows.proofs.ListingLaws.{lines_start, lines_on, lines_end, listed_word}
use Rattle.listing.proofs.lines.put_lines.Goals as goal

pub loop-k-init : goal.loop-k-init
loop-k-init c = (search rules, lines_start _ _ _ _ (omega arith))

pub put_item-next-requires : goal.put_item-next-requires
put_item-next-requires c = (search (rules, listed_word), search rules, search rules, search rules)

pub loop-k-preserved : goal.loop-k-preserved
loop-k-preserved c = (search rules, search (rules, lines_on))

pub returns : goal.returns
returns c = search (rules, lines_end)
