-- Before the first item nothing is kept; from it on the area grows by a word.
use Rattle.readonce.proofs.ItemLaws.{kept_early, kept_not, kept_put, known_long}
use Rattle.std.proofs.Common.{rules}
use Rattle.readonce.proofs.record.keep.Goals as goal

pub returns-then-k-first : goal.returns-then-k-first
returns-then-k-first c = search (rules, kept_early)

pub returns-then-area-i : goal.returns-then-area-i
returns-then-area-i c = search (rules, kept_not)

pub word_at-requires : goal.word_at-requires
word_at-requires c = (
  search rules,
  known_long c.requires.0
      (c.requires.1 c.if-k-first.false),
  search rules,
)

pub returns : goal.returns
returns c = search (rules, kept_put)
