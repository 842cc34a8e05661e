use Rattle.std.proofs.Common.{rules}
use Rattle.items.proofs.CursorLaws.{begin_in, next_up, next_within, next_bytes, next_less, next_in}
use Rattle.items.proofs.KindLaws.{fspt_fixed}
use Rattle.ring.proofs.RingLaws.{rings_begin, rings_end, first_missing, ring_begin, ring_misused, ring_closed, ring_open, next_missing, ring_apart, ring_on, fewer, few_still}
use Rattle.ring.proofs.rings_closed.Goals as goal

pub rings-init : goal.rings-init
rings-init c = (search (rules, begin_in), search (rules, rings_begin))

pub slice_bounds-step_of-count : goal.slice_bounds-step_of-count
slice_bounds-step_of-count c = search (rules, next_up)

pub slice_bounds-step_of-start : goal.slice_bounds-step_of-start
slice_bounds-step_of-start c = search (rules, next_up)

pub slice_bounds-step_of-end : goal.slice_bounds-step_of-end
slice_bounds-step_of-end c = search (rules, next_within)

pub step_of-requires : goal.step_of-requires
step_of-requires c = search (rules, next_bytes, fspt_fixed)

-- here and below the search has too many facts before it, so the law is given those that it takes
pub loop-starts-init : goal.loop-starts-init
loop-starts-init c =
    let began =
    ring_begin _ _ _ _ _ _ _ c.rings.invariant.1 _ c.next.ensures c.in-Some.from c.in-Some.to c.in-Some.after c.in-Some.is _
    c.step_of.ensures c.in-Some-step_of.first c.in-Some-step_of.is in
    (search (rules, next_in), began, search rules, search rules)

pub rings-smaller : goal.rings-smaller
rings-smaller c = search (rules, fewer)

pub rings-preserved : goal.rings-preserved
rings-preserved c = (search rules, search (rules, ring_closed))

pub slice_bounds-step_of-count-in-loop-starts : goal.slice_bounds-step_of-count-in-loop-starts
slice_bounds-step_of-count-in-loop-starts c = search (rules, next_up)

pub slice_bounds-step_of-start-in-loop-starts : goal.slice_bounds-step_of-start-in-loop-starts
slice_bounds-step_of-start-in-loop-starts c = search (rules, next_up)

pub slice_bounds-step_of-end-in-loop-starts : goal.slice_bounds-step_of-end-in-loop-starts
slice_bounds-step_of-end-in-loop-starts c = search (rules, next_within)

pub step_of-requires-in-loop-starts : goal.step_of-requires-in-loop-starts
step_of-requires-in-loop-starts c = (search (rules, next_bytes, fspt_fixed), search rules)

pub loop-starts-smaller : goal.loop-starts-smaller
loop-starts-smaller c = search (rules, next_less)

pub loop-starts-preserved : goal.loop-starts-preserved
loop-starts-preserved c =
    let on =
    ring_on _ _ _ _ _ _ _ _ _ c.loop-starts.invariant.1 _ c.usage_good.ensures c.if-not-usage_good.false-raw
    c.if-t-start.false _ c.next-in-loop-starts.ensures
    c.in-Some-next.from c.in-Some-next.to c.in-Some-next.after c.in-Some-next.is _ c.step_of-in-loop-starts.ensures c.in-Some-step_of-2.u c.in-Some-step_of-2.is c.if-u-t.false in
    (search (rules, next_in), on, search (rules, few_still), search rules)

pub returns-in_default-step_of : goal.returns-in_default-step_of
returns-in_default-step_of c = search (rules, first_missing)

pub returns-then-not-usage_good : goal.returns-then-not-usage_good
returns-then-not-usage_good c = search (rules, ring_misused)

pub returns-in_default-next : goal.returns-in_default-next
returns-in_default-next c = search (rules, ring_open)

pub returns-in_default-step_of-2 : goal.returns-in_default-step_of-2
returns-in_default-step_of-2 c =
    next_missing _ _ _ _ _ _ _ _ _ c.loop-starts.invariant.1 _ c.usage_good.ensures c.if-not-usage_good.false-raw
    c.if-t-start.false _ c.next-in-loop-starts.ensures
    c.in-Some-next.from c.in-Some-next.to c.in-Some-next.after c.in-Some-next.is _ c.step_of-in-loop-starts.ensures (search rules)

pub returns-then-u-t : goal.returns-then-u-t
returns-then-u-t c = search (rules, ring_apart)

pub returns : goal.returns
returns c = search (rules, rings_end)
