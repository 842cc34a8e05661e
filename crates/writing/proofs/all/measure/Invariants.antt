-- The invariant: the sum so far and the size of the records that are left is the size of all; so with the longest; and whether all so far are the
-- held form's.
use Rattle.std.proofs.Common.{◌≤◌, ◌+◌, ◌*◌, max, ◌≡◌, length, drop}
use Rattle.words.specs.Words.{words_in}
use Rattle.writing.specs.All.{written_from, most_of}
use Rattle.writing.proofs.AllLaws.{SameTo}
use Rattle.writing.proofs.all.measure.Given as goal

abbrev pub invariant-loop-k : goal.invariant-loop-k
invariant-loop-k l =
    (l.sum ≤ l.k * 1300000)
    × (length (written_from 3 l.s (words_in l.work 0 l.m)) ≡ l.sum + length (written_from (l.k + 3) l.s (drop l.k (words_in l.work 0 l.m))))
    × (most_of 3 l.s (words_in l.work 0 l.m) ≡ max l.most (most_of (l.k + 3) l.s (drop l.k (words_in l.work 0 l.m)))) × SameTo l.s l.work l.k l.same
