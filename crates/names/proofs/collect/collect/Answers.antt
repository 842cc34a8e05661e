use Rattle.names.proofs.CollectLaws.{holds_none, turn_framed, turn_laid, turn_identified, collect_place, collect_next, collect_turn, collect_done}
use Rattle.iso8211.proofs.Promise.{framed_headed}
use Rattle.std.proofs.Common.{rules}
use Rattle.names.proofs.collect.collect.Goals as goal

pub loop-i-init : goal.loop-i-init
loop-i-init c = search (rules, collect_place, holds_none)

pub head_of-h-requires : goal.head_of-h-requires
head_of-h-requires c = search (rules, framed_headed, turn_framed)

pub word_for-w-requires : goal.word_for-w-requires
word_for-w-requires c = (search (rules, turn_laid), search (rules, turn_identified), search rules)

pub record_end-at-requires : goal.record_end-at-requires
record_end-at-requires c = search (rules, turn_framed)

pub loop-i-preserved : goal.loop-i-preserved
loop-i-preserved c = (search (rules, collect_next), search (rules, collect_turn))

pub returns : goal.returns
returns c = search (rules, collect_done)
