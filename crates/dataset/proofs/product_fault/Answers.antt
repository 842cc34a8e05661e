-- By the rules in turn: the first that is broken is told.
use Rattle.std.proofs.Common.{rules}
use Rattle.values.specs.Fault.{told, first}
use Rattle.dataset.specs.Dsid.{product_fault}
use Rattle.dataset.proofs.product_fault.Goals as goal

pub returns-in_err-holds : goal.returns-in_err-holds
unfolding product_fault told first
returns-in_err-holds c = search rules

pub returns-in_err-holds-2 : goal.returns-in_err-holds-2
unfolding product_fault told first
returns-in_err-holds-2 c = search rules

pub returns-in_err-holds-3 : goal.returns-in_err-holds-3
unfolding product_fault told first
returns-in_err-holds-3 c = search rules

pub returns : goal.returns
unfolding product_fault told first
returns c = search rules
