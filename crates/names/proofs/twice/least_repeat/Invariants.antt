-- The invariant: the least place from here on is the least from the start.
use Rattle.std.proofs.Common.{◌-◌, ◌≡◌}
use Rattle.words.specs.Words.{words_in}
use Rattle.names.specs.Neighbours.{least_from, least_repeat}
use Rattle.names.proofs.twice.least_repeat.Given as goal

abbrev pub invariant-loop-i : goal.invariant-loop-i
invariant-loop-i l = least_repeat (words_in l.area 0 l.m) ≡ least_from l.least l.left (words_in l.area l.i (l.m - l.i))
