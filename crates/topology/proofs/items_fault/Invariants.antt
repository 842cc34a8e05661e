-- The invariant: the refusal from item i on is that from the first.
use Rattle.std.proofs.Common.{◌+◌, ◌-◌, ◌≡◌}
use Rattle.words.specs.Words.{words_in}
use Rattle.topology.specs.Notes.{noted_code, word_fault}
use Rattle.topology.proofs.items_fault.Given as goal

abbrev pub invariant-loop-i : goal.invariant-loop-i
invariant-loop-i l = word_fault (noted_code l.comf l.work l.m l.v) l.s 3 (words_in l.work 0 l.m)
    ≡ word_fault (noted_code l.comf l.work l.m l.v) l.s (3 + l.i) (words_in l.work l.i (l.m - l.i))
