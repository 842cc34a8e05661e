use Rattle.std.proofs.Common.{rules}
use Rattle.iso8211.proofs.Promise.{framed_headed, at_on}
use Rattle.names.proofs.ReadableLaws.{readable_three, readable_framed, readable_laid, readable_known}
use Rattle.counted.proofs.CountsLaws.{tally_start, tally_on, tally_end, tally_few}
use Rattle.counted.proofs.counts.tally_of.Goals as goal

pub loop-init : goal.loop-init
loop-init c = (search (rules, readable_three), search (rules, tally_start))

pub head_of-h-requires : goal.head_of-h-requires
head_of-h-requires c = search (rules, framed_headed, readable_framed)

pub add-t-requires : goal.add-t-requires
add-t-requires c = (search (rules, tally_few), search (rules, readable_laid), search (rules, readable_known))

pub record_end-at-requires : goal.record_end-at-requires
record_end-at-requires c = search (rules, readable_framed)

pub loop-preserved : goal.loop-preserved
loop-preserved c = (search (rules, at_on), search (rules, tally_on))

pub returns : goal.returns
returns c = search (rules, tally_end)
