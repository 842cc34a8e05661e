-- The ends in hand are those of the field; the last is near enough to its end for the sum to fit.
use Rattle.std.proofs.Common.{arith, rules}
use Rattle.dataset.proofs.DsidLaws.{ends_near, ends_laid}
use Rattle.dataset.proofs.dsid_laid.Goals as goal

pub overflow_add-result : goal.overflow_add-result
overflow_add-result c = omega (arith, ends_near _ _ c.dsid_ends-e.ensures)

pub returns : goal.returns
returns c = search (rules, ends_laid)
