-- RCNM 100 tells that the field is FRID, which is long enough for RVER at 9.
use Rattle.items.proofs.IdentityLaws.{version_room, version_feature, version_vector}
use Rattle.std.proofs.Common.{rules}
use Rattle.items.proofs.identity.version_of.Goals as goal

pub get2-requires : goal.get2-requires
get2-requires c = search (rules, version_room)

pub returns-then-get1-eq100 : goal.returns-then-get1-eq100
returns-then-get1-eq100 c = version_feature _ _ _ _ c.id_at-id.ensures _ c.get1.ensures c.if-get1-eq100.true c.get2.ensures

pub returns : goal.returns
returns c = version_vector _ _ _ _ c.id_at-id.ensures _ c.get1.ensures c.if-get1-eq100.false c.get2-2.ensures
