-- Record 3 starts where record 2 ends.
use Rattle.std.proofs.Common.{rules}
use Rattle.counted.proofs.CountsLaws.{first_framed, second_framed, third_framed, third_place}
use Rattle.counted.proofs.counts.third_at.Goals as goal

pub record_end-first-requires : goal.record_end-first-requires
record_end-first-requires c = search (rules, first_framed)

pub record_end-second-requires : goal.record_end-second-requires
record_end-second-requires c = search (rules, second_framed)

pub record_end-requires : goal.record_end-requires
record_end-requires c = search (rules, third_framed)

pub returns : goal.returns
returns c = search (rules, third_place)
