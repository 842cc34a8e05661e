-- By the rules in turn: the first that is broken is told.
use Rattle.std.proofs.Common.{rules}
use Rattle.values.specs.Fault.{told, first}
use Rattle.dataset.specs.Dsid.{names_fault, edtn_good}
use Rattle.dataset.proofs.names_fault.Goals as goal

pub returns-in_err-holds : goal.returns-in_err-holds
unfolding names_fault edtn_good told first
returns-in_err-holds c = search rules

pub returns-in_err-holds-2 : goal.returns-in_err-holds-2
unfolding names_fault edtn_good told first
returns-in_err-holds-2 c = search rules

pub returns : goal.returns
unfolding names_fault edtn_good told first
returns c = search rules
