-- The answer from here on is the answer from the start.
use Rattle.std.proofs.Common.{◌≡◌, length}
use Rattle.words.specs.Words.{words_in}
use Rattle.names.specs.NameWords.{items_at}
use Rattle.amend.specs.Sides.{Areas}
use Rattle.amendments.proofs.FaultLaws.{Judging}
use Rattle.amendments.proofs.fault.amendments_fault.Given as goal

abbrev pub invariant-loop-k : goal.invariant-loop-k
invariant-loop-k l =
    Judging (items_at l.cell (words_in l.work l.from l.n)) l.update l.m l.k l.at × Areas l.join l.table
    × (length l.join ≡ length l.initial.join) × (length l.table ≡ length l.initial.table)
    × (length l.room ≡ length l.initial.room)
