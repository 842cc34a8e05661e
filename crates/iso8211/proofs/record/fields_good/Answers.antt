use Rattle.std.proofs.Common.{arith, rules}
use Rattle.iso8211.proofs.RecordLaws.{left_start, left_bad, left_on, left_end, left_room, left_less, batch_most}
use Rattle.iso8211.proofs.record.fields_good.Goals as goal

pub loop-left-init : goal.loop-left-init
loop-left-init c = (omega arith, c.requires.1.1.0, left_start _ _ _ _ _ _ _)

pub batch-rows-requires : goal.batch-rows-requires
batch-rows-requires c = (omega arith, (omega arith, (omega arith, left_room _ _ _ _ _ (omega arith) c.loop-left.invariant.1)))

pub judged-requires : goal.judged-requires
judged-requires c = omega arith

pub returns-in_default : goal.returns-in_default
returns-in_default c = left_bad c.loop-left.invariant.2 _ (omega arith) _ c.batch-rows.ensures
    c.judged.ensures (search rules)

pub overflow_mul-at : goal.overflow_mul-at
overflow_mul-at c = omega (
  arith,
  left_room _ c.batch_size-n.result _ _ _ (omega arith)
      c.loop-left.invariant.1,
)

pub overflow_add-at-in-loop-left-2 : goal.overflow_add-at-in-loop-left-2
overflow_add-at-in-loop-left-2 c = omega (
  arith,
  left_room _ c.batch_size-n.result _ _ _ (omega arith)
      c.loop-left.invariant.1,
)

pub overflow_sub-left : goal.overflow_sub-left
overflow_sub-left c = omega arith

pub loop-left-smaller : goal.loop-left-smaller
loop-left-smaller c = omega arith

pub loop-left-preserved : goal.loop-left-preserved
loop-left-preserved c = (
  batch_most c.judged.ensures (search rules),
  left_less _ _ _ _ _ (omega arith)
      c.loop-left.invariant.1,
  left_on c.loop-left.invariant.2 _ (omega arith)
      _ c.batch-rows.ensures c.judged.ensures (search rules),
)

pub returns : goal.returns
returns c = left_end c.loop-left.invariant.2 (omega arith)
