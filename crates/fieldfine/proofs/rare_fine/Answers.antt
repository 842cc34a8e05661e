-- Filled first, then without fault.
use Rattle.fieldfine.proofs.FieldLaws.{plain_no, plain_so, filled_so}
use Rattle.std.proofs.Common.{rules}
use Rattle.fieldfine.proofs.rare_fine.Goals as goal

pub returns-then-not-filled : goal.returns-then-not-filled
returns-then-not-filled c = plain_no

pub plain_fault-requires : goal.plain_fault-requires
plain_fault-requires c = (search (rules, filled_so), search rules)

pub returns : goal.returns
returns c = search (rules, plain_so)
