-- The invariant: the area holds the words of the first i records, and record first + i starts here.
use Rattle.std.proofs.Common.{◌+◌, ◌≡◌}
use Rattle.iso8211.specs.File.{record_at}
use Rattle.names.specs.NameWords.{words_from}
use Rattle.names.specs.Area.{Collected}
use Rattle.names.proofs.collect.collect.Given as goal

abbrev pub invariant-loop-i : goal.invariant-loop-i
invariant-loop-i l = (l.at ≡ record_at l.s (l.first + l.i)) × Collected l.initial.area (words_from l.i l.s (record_at l.s l.first)) l.i l.area
