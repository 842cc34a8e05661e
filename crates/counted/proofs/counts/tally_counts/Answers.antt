-- The field of record 1 and the tally, compared.
use Rattle.iso8211.proofs.Promise.{framed_headed}
use Rattle.std.proofs.Common.{rules}
use Rattle.counted.proofs.CountsLaws.{first_framed, second_framed, dssi_third, dssi_whole, counts_told}
use Rattle.counted.proofs.counts.tally_counts.Goals as goal

pub record_end-at-requires : goal.record_end-at-requires
record_end-at-requires c = search (rules, first_framed)

pub head_of-requires : goal.head_of-requires
head_of-requires c = search (rules, framed_headed, second_framed)

pub field-f-requires : goal.field-f-requires
field-f-requires c = search (rules, dssi_third)

pub tally_good-requires : goal.tally_good-requires
tally_good-requires c = search (rules, dssi_whole)

pub returns : goal.returns
returns c = search (rules, counts_told)
