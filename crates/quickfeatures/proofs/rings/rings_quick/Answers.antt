use Rattle.std.proofs.Common.{⊎_elim, arith, rules}
use Rattle.quickfeatures.proofs.TrodLaws.{rings_no, rings_start, rings_end, trod_room, inside_first, inside_on, ring_closed, ring_open}
use Rattle.quickfeatures.proofs.rings.rings_quick.Goals as goal

pub loop-i-init : goal.loop-i-init
loop-i-init c = search (rules, rings_start)

pub overflow_add-i : goal.overflow_add-i
overflow_add-i c = search (rules, trod_room)

pub loop-i-smaller : goal.loop-i-smaller
loop-i-smaller c = search (rules, trod_room)

pub loop-i-preserved : goal.loop-i-preserved
loop-i-preserved c =
    ⊎_elim (λ w. search (rules, ring_closed, inside_on)) (λ w. search (rules, ring_closed, inside_first)) c.if-begun.branch-raw

pub loop-t-smaller : goal.loop-t-smaller
loop-t-smaller c =
    omega (arith, trod_room _ _ _ _ _ _ _ c.trod_at.ensures c.in-Some.t c.in-Some.next c.in-Some.is)

pub loop-t-preserved : goal.loop-t-preserved
loop-t-preserved c =
    let so = c.loop-t.invariant.0 in
    let told = c.trod_at.ensures in
    let is = c.in-Some.is in
    let good = c.usage_good.ensures in
    let pass = c.if-not-usage_good.false-raw in
    let further = c.if-due-home.false in (
      ⊎_elim
          (λ w. ring_open _ _ _ _ _ _ _ _ _ _ (inside_on _ _ _ _ _ _ _ _ _ _ _ so _ _ _ told is _ w.if-begun.true w.if-t-due.false w.home-is) _ good pass further)
          (λ w. ring_open _ _ _ _ _ _ _ _ _ _ (inside_first _ _ _ _ _ _ _ _ _ _ _ so _ _ _ told is _ w.if-begun.false w.home-is) _ good pass further)
          c.if-begun.branch-raw,
      search rules,
    )

pub returns-in_default : goal.returns-in_default
returns-in_default c = search (rules, rings_no)

pub returns-then-t-due : goal.returns-then-t-due
returns-then-t-due c = search (rules, rings_no)

pub returns-then-not-usage_good : goal.returns-then-not-usage_good
returns-then-not-usage_good c = search (rules, rings_no)

pub returns : goal.returns
returns c = search (rules, rings_end)
