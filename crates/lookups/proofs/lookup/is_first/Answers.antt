-- A yes has both tests behind it; a no promises nothing.
use Rattle.lookups.proofs.LookupLaws.{first_no, first_at_front, first_behind}
use Rattle.std.proofs.Common.{rules}
use Rattle.lookups.proofs.lookup.is_first.Goals as goal

pub returns-then-m-near : goal.returns-then-m-near
returns-then-m-near c = search (rules, first_no)

pub returns-then-get-name : goal.returns-then-get-name
returns-then-get-name c = search (rules, first_no)

pub returns-then-near-eq0 : goal.returns-then-near-eq0
returns-then-near-eq0 c = search (rules, first_at_front)

pub returns-then-name-get : goal.returns-then-name-get
returns-then-name-get c = search (rules, first_no)

pub returns : goal.returns
returns c = search (rules, first_behind)
