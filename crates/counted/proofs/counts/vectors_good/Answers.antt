-- The tests of the definition, one after the other.
use Rattle.octets.proofs.Tests.{chain}
use Rattle.counted.specs.Tallies.{vectors_good}
use Rattle.counted.proofs.counts.vectors_good.Goals as goal

pub returns-then-not-is_count : goal.returns-then-not-is_count
unfolding vectors_good
returns-then-not-is_count c = search chain depth 8

pub returns-then-not-is_count-2 : goal.returns-then-not-is_count-2
unfolding vectors_good
returns-then-not-is_count-2 c = search chain depth 8

pub returns : goal.returns
unfolding vectors_good
returns c = search chain depth 8
