-- The three ways of an entry: too few bytes, no text, a text.
use Rattle.entries.proofs.EntryLaws.{len_short, len_bare, len_text}
use Rattle.std.proofs.Common.{rules}
use Rattle.entries.proofs.entry_len_at.Goals as goal

pub returns-then-b-at : goal.returns-then-b-at
returns-then-b-at c = search (rules, len_short)

pub returns-then-unit-eq0 : goal.returns-then-unit-eq0
returns-then-unit-eq0 c = search (rules, len_bare)

pub returns : goal.returns
returns c = search (rules, len_text)
