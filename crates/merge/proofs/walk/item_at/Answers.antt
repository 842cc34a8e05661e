-- The three ways: no modify is left, the next has the name of the word, or it has another.
use Rattle.merge.proofs.WalkLaws.{item_last, item_changed, item_other}
use Rattle.std.proofs.Common.{rules}
use Rattle.merge.proofs.walk.item_at.Goals as goal

pub returns-then-j-edits : goal.returns-then-j-edits
returns-then-j-edits c = search (rules, item_last)

pub returns-then-word-by : goal.returns-then-word-by
returns-then-word-by c = search (rules, item_changed)

pub returns : goal.returns
returns c = search (rules, item_other)
