use Rattle.reissue.proofs.TallyLaws.{tally_start, word_stands, tally_on, tally_end, tally_few}
use Rattle.std.proofs.Common.{rules}
use Rattle.reissue.proofs.tally.tally_words.Goals as goal

pub loop-k-init : goal.loop-k-init
loop-k-init c = search (rules, tally_start)

pub add_word-t-requires : goal.add_word-t-requires
add_word-t-requires c = (search (rules, tally_few), search (rules, word_stands))

pub loop-k-preserved : goal.loop-k-preserved
loop-k-preserved c = search (rules, tally_on)

pub returns : goal.returns
returns c = search (rules, tally_end)
