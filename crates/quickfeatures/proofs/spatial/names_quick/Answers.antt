use Rattle.std.proofs.Common.{◌∙◌, arith, rules}
use Rattle.quickfeatures.proofs.NameLaws.{names_no, named_start, named_on, named_end, found_below}
use Rattle.quickfeatures.proofs.spatial.names_quick.Goals as goal

pub loop-e-init : goal.loop-e-init
loop-e-init c =
    rw c.into_iter-e-iterator.ensures.into_iter_gives (named_start _ _ _ _ _ c.chunks_exact-e-items.ensures.rest, c.chunks_exact-e-items.ensures.size)

pub spatial_near-requires : goal.spatial_near-requires
spatial_near-requires c = (omega (arith, c.next.ensures.steps, c.in-Some.ensures.steps.1.1, c.loop-e.invariant.1), search rules)

pub returns-in_default : goal.returns-in_default
returns-in_default c = search (rules, names_no)

pub index_behind-near-requires : goal.index_behind-near-requires
index_behind-near-requires c = search (rules, found_below)

pub loop-e-preserved : goal.loop-e-preserved
loop-e-preserved c =
    let step = c.in-Some.ensures.steps in
    (named_on _ c.loop-e.invariant.0 step.1.0 (step.1.1 ∙ c.loop-e.invariant.1) c.spatial_near.ensures c.in-Some-spatial_near.is, step.0 ∙ c.loop-e.invariant.1)

pub returns : goal.returns
returns c = named_end c.loop-e.invariant.0 (omega (arith, c.in-None.ensures.steps.1.0, c.loop-e.invariant.1))
