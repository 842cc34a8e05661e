-- The update's words first, then the cell's. Assumes nothing.
use Rattle.std.proofs.Common.{arith, rules}
use Rattle.show.proofs.SightLaws.{both_three, both_two, both_room, both_sorted, update_absent, update_framed, update_shown}
use Rattle.show.proofs.sight.both_sight.Goals as goal

pub overflow_sub-half : goal.overflow_sub-half
overflow_sub-half c = both_three c.requires

pub overflow_sub-half-2 : goal.overflow_sub-half-2
overflow_sub-half-2 c = both_two c.requires

pub overflow_sub-n : goal.overflow_sub-n
overflow_sub-n c = both_three c.requires

pub overflow_sub-m : goal.overflow_sub-m
overflow_sub-m c = both_two c.requires

pub place_named-requires : goal.place_named-requires
place_named-requires c = (both_room c.requires, both_sorted c.requires)

pub returns-in_default : goal.returns-in_default
returns-in_default c =
    update_absent c.requires _ _ _ c.place_named.ensures (search rules)
    (λ i. omega (arith, c.type_inv.update i)) _ (search rules) c.cell_sight.ensures

pub span_of-requires : goal.span_of-requires
span_of-requires c =
    update_framed c.requires _ _ _ c.place_named.ensures (search rules)
    (λ i. omega (arith, c.type_inv.update i)) _ (search rules)

pub returns : goal.returns
returns c =
    update_shown c.requires _ _ _ c.place_named.ensures (search rules)
    (λ i. omega (arith, c.type_inv.update i)) _ _ (search rules) c.span_of.ensures
