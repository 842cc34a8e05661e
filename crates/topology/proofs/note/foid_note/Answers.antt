-- FOID stands behind FRID.
use Rattle.topology.proofs.QuickLaws.{feature_told, foid_room, foid_read}
use Rattle.std.proofs.Common.{rules}
use Rattle.topology.proofs.note.foid_note.Goals as goal

pub foid_of-requires : goal.foid_of-requires
foid_of-requires c = (search rules, search (rules, feature_told))

pub foid_behind-requires : goal.foid_behind-requires
foid_behind-requires c = search (rules, foid_room)

pub returns : goal.returns
returns c = search (rules, foid_read)
