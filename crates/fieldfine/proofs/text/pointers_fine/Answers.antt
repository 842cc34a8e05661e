use Rattle.std.proofs.Common.{arith, rules}
use Rattle.fieldfine.proofs.ListLaws.{pointing_start, pointing_on, pointing_end, pointer_fits, pointers_no}
use Rattle.fieldfine.proofs.text.pointers_fine.Goals as goal

pub loop-at-init : goal.loop-at-init
loop-at-init c = (search rules, search (rules, pointing_start))

pub returns-then-n-eq0 : goal.returns-then-n-eq0
returns-then-n-eq0 c = pointers_no

pub overflow_add-at : goal.overflow_add-at
overflow_add-at c = let f = pointer_fits _ c.requires c.pointer_len-n.ensures c.if-n-eq0.false in omega arith

pub loop-at-preserved : goal.loop-at-preserved
loop-at-preserved c = (search (rules, pointer_fits), search (rules, pointing_on))

pub returns : goal.returns
returns c = search (rules, pointing_end)
