-- What the look-up finds is what is held under the name.
use Rattle.amendments.proofs.LookupLaws.{code_none, code_some, found_pair}
use Rattle.std.proofs.Common.{rules}
use Rattle.amendments.proofs.code.amendment_code.Goals as goal

pub returns-in_default : goal.returns-in_default
returns-in_default c = (search (rules, code_none), search rules)

pub held_code-requires : goal.held_code-requires
held_code-requires c = search (rules, found_pair)

pub returns : goal.returns
returns c = (search (rules, code_some), search rules)
