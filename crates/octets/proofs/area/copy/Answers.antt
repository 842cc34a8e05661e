use Rattle.octets.proofs.AreaLaws.{going_start, going_length, copy_more, copy_all}
use Rattle.std.proofs.Common.{add-zero, arith}
use Rattle.octets.proofs.area.copy.Goals as goal

pub loop-i-init : goal.loop-i-init
loop-i-init c = rw (add-zero c.args.at) (going_start _ _ _ (omega arith))

pub bounds-area-at : goal.bounds-area-at
bounds-area-at c = omega (arith, going_length c.loop-i.invariant)

pub loop-i-preserved : goal.loop-i-preserved
loop-i-preserved c = copy_more c.loop-i.invariant c.requires c.loop-i-test.true

pub returns : goal.returns
returns c = copy_all c.loop-i.invariant (omega arith)
