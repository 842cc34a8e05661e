use Rattle.items.proofs.ListsLaws.{field_some, field_ends}
use Rattle.std.proofs.Common.{arith, rules}
use Rattle.items.proofs.CursorLaws.{settled_here, settled_end, settled_skip, settled_found}
use Rattle.items.proofs.step.settled.Goals as goal

pub returns-then-from-to : goal.returns-then-from-to
returns-then-from-to c = search (rules, settled_here)

pub overflow_sub-result : goal.overflow_sub-result
overflow_sub-result c = field_some _ _ _ _ c.requires.0.laid c.field-f.ensures (omega arith)

pub overflow_add-result-then-kind_of-k : goal.overflow_add-result-then-kind_of-k
overflow_add-result-then-kind_of-k c = let ends = field_ends _ _ _ _ c.requires.0.laid c.field-f.ensures
    (omega arith) in omega arith

pub returns-then-kind_of-k : goal.returns-then-kind_of-k
returns-then-kind_of-k c = settled_found _ _ _ _ _ _ c.requires.0.head.count
    c.loop-field.invariant _ _ (search rules) c.tag.ensures
    c.kind_of.ensures.0 _ _ c.requires.0.laid
    c.requires.0.list (search rules) (search rules) (search rules) c.field-f.ensures

pub loop-field-preserved : goal.loop-field-preserved
loop-field-preserved c = settled_skip _ _ _ _ _ _ c.requires.0.head.count
    c.loop-field.invariant _ _ (search rules) c.tag.ensures c.kind_of.ensures.0 (search rules)

pub returns : goal.returns
returns c = search (rules, settled_end)
