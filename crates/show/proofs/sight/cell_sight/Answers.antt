-- The words say where the record of the name stands. Assumes nothing.
use Rattle.std.proofs.Common.{arith, rules}
use Rattle.show.proofs.SightLaws.{cell_three, cell_room, cell_sorted, cell_absent, cell_framed, cell_shown}
use Rattle.show.proofs.sight.cell_sight.Goals as goal

pub overflow_sub-n : goal.overflow_sub-n
overflow_sub-n c = cell_three c.requires

pub place_named-requires : goal.place_named-requires
place_named-requires c = (cell_room c.requires, cell_sorted c.requires)

pub returns-in_default : goal.returns-in_default
returns-in_default c =
    cell_absent c.requires _ _ _ c.place_named.ensures (search rules)
    (λ i. omega (arith, c.type_inv.cell i)) _ (search rules) c.answered.ensures

pub span_of-requires : goal.span_of-requires
span_of-requires c =
    cell_framed c.requires _ _ _ c.place_named.ensures (search rules)
    (λ i. omega (arith, c.type_inv.cell i)) _ (search rules)

pub returns : goal.returns
returns c =
    cell_shown c.requires _ _ _ c.place_named.ensures (search rules)
    (λ i. omega (arith, c.type_inv.cell i)) _ _ (search rules) c.span_of.ensures
