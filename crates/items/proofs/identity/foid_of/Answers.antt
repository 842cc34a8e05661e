-- FOID is the field behind FRID.
use Rattle.items.proofs.IdentityLaws.{foid_room, foid_read}
use Rattle.std.proofs.Common.{rules}
use Rattle.items.proofs.identity.foid_of.Goals as goal

pub get8-requires : goal.get8-requires
get8-requires c = search (rules, foid_room)

pub returns : goal.returns
returns c = search (rules, foid_read)
