use Rattle.std.proofs.Common.{arith, rules}
use Rattle.writing.proofs.AllLaws.{same_start, same_on, word_writable, sum_on, most_on, sizes_end, measured}
use Rattle.writing.proofs.all.measure.Goals as goal

pub loop-k-init : goal.loop-k-init
loop-k-init c = (omega arith, omega arith, omega arith, search (rules, same_start))

pub known_size-one-requires : goal.known_size-one-requires
known_size-one-requires c = search (rules, word_writable)

pub loop-k-preserved : goal.loop-k-preserved
loop-k-preserved c = (search rules, search (rules, sum_on), search (rules, most_on), search (rules, same_on))

pub returns : goal.returns
returns c = search (rules, measured, sizes_end)
