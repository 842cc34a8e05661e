-- Name, edition, number, in this order. Assumes nothing.
use Rattle.follow.proofs.FollowLaws.{code_other, code_edition, code_number, code_next}
use Rattle.std.proofs.Common.{rules}
use Rattle.follow.proofs.dsid_code.Goals as goal

pub returns-then-not-same_name : goal.returns-then-not-same_name
returns-then-not-same_name c = search (rules, code_other)

pub returns-then-q-p : goal.returns-then-q-p
returns-then-q-p c = search (rules, code_edition)

pub returns-then-q-p-2 : goal.returns-then-q-p-2
returns-then-q-p-2 c = search (rules, code_number)

pub returns : goal.returns
returns c = search (rules, code_next)
