-- The invariant: the counts of all are those so far with those of the objects left. Assumes nothing.
use Rattle.std.proofs.Common.{◌≡◌, drop}
use Rattle.words.specs.Words.{words_in}
use Rattle.held.specs.Held.{tally_in}
use Rattle.names.specs.NameWords.{items_at}
use Rattle.reissue.specs.Tally.{with_objects}
use Rattle.reissue.proofs.tally.tally_words.Given as goal

abbrev pub invariant-loop-k : goal.invariant-loop-k
invariant-loop-k l = tally_in (items_at l.s (words_in l.work 0 l.m)) ≡ with_objects l.t (items_at l.s (drop l.k (words_in l.work 0 l.m)))
