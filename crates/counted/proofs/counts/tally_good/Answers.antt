-- The tests of the definition, one after the other.
use Rattle.octets.proofs.Tests.{chain}
use Rattle.counted.specs.Tallies.{tally_good}
use Rattle.counted.proofs.counts.tally_good.Goals as goal

pub returns-then-not-is_count : goal.returns-then-not-is_count
unfolding tally_good
returns-then-not-is_count c = search chain depth 8

pub returns-then-not-is_count-2 : goal.returns-then-not-is_count-2
unfolding tally_good
returns-then-not-is_count-2 c = search chain depth 8

pub returns-then-not-is_count-3 : goal.returns-then-not-is_count-3
unfolding tally_good
returns-then-not-is_count-3 c = search chain depth 8

pub returns : goal.returns
unfolding tally_good
returns c = search chain depth 8
