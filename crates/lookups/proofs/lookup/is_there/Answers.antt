-- A yes has the word itself behind it; a no promises nothing.
use Rattle.lookups.proofs.LookupLaws.{word_no, word_here}
use Rattle.std.proofs.Common.{rules}
use Rattle.lookups.proofs.lookup.is_there.Goals as goal

pub returns-then-m-near : goal.returns-then-m-near
returns-then-m-near c = search (rules, word_no)

pub returns-then-get-w : goal.returns-then-get-w
returns-then-get-w c = search (rules, word_no)

pub returns : goal.returns
returns c = search (rules, word_here)
