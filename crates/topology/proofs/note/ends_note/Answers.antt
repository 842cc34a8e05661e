-- Its pointers, one by one.
use Rattle.topology.proofs.QuickLaws.{edge_listed}
use Rattle.std.proofs.Common.{rules}
use Rattle.topology.proofs.note.ends_note.Goals as goal

pub ends_of-requires : goal.ends_of-requires
ends_of-requires c = search (rules, edge_listed)
