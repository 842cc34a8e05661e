-- By the rules in turn: the first that is broken is told.
use Rattle.std.proofs.Common.{rules}
use Rattle.values.specs.Fault.{told, first}
use Rattle.headvalues.specs.Dspm.{dspm_fault}
use Rattle.headvalues.proofs.dspm.dspm_fault.Goals as goal

pub returns-in_err-datum_fault : goal.returns-in_err-datum_fault
unfolding dspm_fault told first
returns-in_err-datum_fault c = search rules

pub returns-in_err-units_fault : goal.returns-in_err-units_fault
unfolding dspm_fault told first
returns-in_err-units_fault c = search rules

pub returns : goal.returns
unfolding dspm_fault told first
returns c = search rules
