use Rattle.std.proofs.Common.{arith, refl, rules}
use Rattle.octets.proofs.AreaLaws.{going_start}
use Rattle.labelled.proofs.TableLaws.{passing_start, passing_on, passing_end}
use Rattle.labelled.proofs.WorkedLaws.{worked_facing, worked_room, worked_on, worked_end}
use Rattle.labelled.proofs.labels.put_worked.Goals as goal

pub loop-n-init : goal.loop-n-init
loop-n-init c = (search rules, search rules, search rules, search (rules, passing_start), going_start _ _ _ (omega arith))

pub put_instead-next-requires : goal.put_instead-next-requires
put_instead-next-requires c =
    let e = c.in-Some.ensures in (
      worked_facing _ _ _ _ e.size e.some _ c.requires.0 c.requires.1 c.loop-n.invariant.3 e.within e.told e.low,
      worked_room c.args.held.now c.args.brought.now c.loop-n.i _ e.size e.some c.loop-n.invariant.4 c.requires.2,
    )

pub loop-n-preserved : goal.loop-n-preserved
loop-n-preserved c =
    let e = c.in-Some.ensures in (
      search rules,
      search rules,
      search rules,
      passing_on c.loop-n.invariant.3 _ e.size e.some _ e.told e.low _ c.used_of.ensures,
      worked_on _ _ _ _ e.size e.some c.loop-n.invariant.4 c.put_instead-next.ensures,
    )

pub returns : goal.returns
returns c =
    let none = c.in_default.ensures in
    (worked_end c.args.held.now c.args.brought.now c.loop-n.i _ none refl c.loop-n.invariant.4, passing_end c.loop-n.invariant.3 _ none refl)
