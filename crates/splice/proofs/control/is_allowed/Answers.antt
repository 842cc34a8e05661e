-- With a control and without.
use Rattle.std.proofs.Common.{rules}
use Rattle.splice.proofs.ControlLaws.{without_told, with_told}
use Rattle.splice.proofs.control.is_allowed.Goals as goal

pub returns-in-Some : goal.returns-in-Some
returns-in-Some c = search (rules, with_told)

pub returns-in-None : goal.returns-in-None
returns-in-None c = search (rules, without_told)
