-- The invariant: what is written and the records that are left are all records.
use Rattle.std.proofs.Common.{◌+◌, drop}
use Rattle.octets.specs.Area.{Going}
use Rattle.words.specs.Words.{words_in}
use Rattle.writing.specs.All.{written_from}
use Rattle.writing.proofs.all.put_items.Given as goal

abbrev pub invariant-loop-k : goal.invariant-loop-k
invariant-loop-k l =
    Going l.initial.out l.place (written_from 3 l.s (words_in l.work 0 l.m)) l.out l.next (written_from (l.k + 3) l.s (drop l.k (words_in l.work 0 l.m)))
