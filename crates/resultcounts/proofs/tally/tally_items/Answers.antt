use Rattle.resultitems.proofs.PlacesLaws.{walk_able, walk_rest}
use Rattle.resultitems.proofs.AllLaws.{able_start}
use Rattle.resultcounts.proofs.TallyLaws.{tally_start, tally_on, tally_end, tally_few}
use Rattle.std.proofs.Common.{rules}
use Rattle.resultcounts.proofs.tally.tally_items.Goals as goal

pub loop-i-init : goal.loop-i-init
loop-i-init c = (search rules, search (rules, able_start), search (rules, tally_start))

pub add_item-t-requires : goal.add_item-t-requires
add_item-t-requires c = (search (rules, tally_few), search (rules, walk_able))

pub loop-i-preserved : goal.loop-i-preserved
loop-i-preserved c = (search rules, search (rules, walk_rest), search (rules, tally_on))

pub returns : goal.returns
returns c = search (rules, tally_end)
