use Rattle.std.proofs.Common.{arith, refl, rules}
use Rattle.octets.proofs.AreaLaws.{going_start}
use Rattle.labelled.proofs.TableLaws.{passing_start, passing_cleared, passing_end}
use Rattle.labelled.proofs.WorkedLaws.{fresh_put, fresh_room, fresh_on, found_on}
use Rattle.labelled.proofs.labels.put_fresh.Goals as goal

pub loop-n-init : goal.loop-n-init
loop-n-init c = (search rules, search rules, search rules, search (rules, passing_start), going_start _ _ _ (omega arith), search rules)

pub put_new-next-requires : goal.put_new-next-requires
put_new-next-requires c =
    let e = c.in-Some.ensures in
    (search rules, fresh_room _ _ _ _ e.size e.some c.loop-n.invariant.3 _ e.told e.low c.loop-n.invariant.4 c.requires.2)

pub loop-n-preserved : goal.loop-n-preserved
loop-n-preserved c =
    let e = c.in-Some.ensures in (
      search rules,
      search rules,
      search rules,
      passing_cleared c.loop-n.invariant.3 _ e.size e.some _ e.told e.low,
      fresh_on _ _ _ _ e.size e.some c.loop-n.invariant.3 _ e.told e.low c.loop-n.invariant.4 c.put_new-next.ensures,
      found_on _ _ _ _ e.size e.some c.loop-n.invariant.3 _ e.told e.low _ _ c.loop-n.invariant.5 c.still_found-found.ensures,
    )

pub returns : goal.returns
returns c =
    let none = c.in_default.ensures in
    (fresh_put _ _ _ _ none refl _ c.loop-n.invariant.5 c.loop-n.invariant.4 c.then_some.ensures, passing_end c.loop-n.invariant.3 _ none refl)
