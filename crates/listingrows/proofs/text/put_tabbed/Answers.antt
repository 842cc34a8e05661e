use Rattle.listingrows.proofs.TextLaws.{tabbed_start, tabbed_room, tabbed_on, tabbed_feed, tabbed_end}
use Rattle.std.proofs.Common.{rules}
use Rattle.listingrows.proofs.text.put_tabbed.Goals as goal

pub loop-v-init : goal.loop-v-init
loop-v-init c = search (rules, tabbed_start)

pub put_next-next-requires : goal.put_next-next-requires
put_next-next-requires c = search (rules, tabbed_room)

pub loop-v-preserved : goal.loop-v-preserved
loop-v-preserved c = search (rules, tabbed_on)

pub put1-requires : goal.put1-requires
put1-requires c = search (rules, tabbed_feed)

pub returns : goal.returns
returns c = search (rules, tabbed_end)
