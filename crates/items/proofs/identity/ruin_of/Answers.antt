-- RCNM 100 tells that the field is FRID, which is long enough for RUIN at 11.
use Rattle.items.proofs.IdentityLaws.{ruin_room, ruin_feature, ruin_vector}
use Rattle.std.proofs.Common.{rules}
use Rattle.items.proofs.identity.ruin_of.Goals as goal

pub get1-requires-then-get1-eq100 : goal.get1-requires-then-get1-eq100
get1-requires-then-get1-eq100 c = search (rules, ruin_room)

pub returns-then-get1-eq100 : goal.returns-then-get1-eq100
returns-then-get1-eq100 c = ruin_feature _ _ _ _ c.id_at-id.ensures _ c.get1.ensures c.if-get1-eq100.true c.get1-then-get1-eq100.ensures

pub returns : goal.returns
returns c = ruin_vector _ _ _ _ c.id_at-id.ensures _ c.get1.ensures c.if-get1-eq100.false c.get1-2.ensures
