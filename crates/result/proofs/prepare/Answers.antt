-- The notes of all items, put and sorted.
use Rattle.result.proofs.NotesLaws.{laid_room, noted_order, noted_room, noted_prepared, noted_beside}
use Rattle.std.proofs.Common.{rules}
use Rattle.result.proofs.prepare.Goals as goal

pub starts_of-starts-requires : goal.starts_of-starts-requires
starts_of-starts-requires c = (search (rules, laid_room), search rules)

pub sort_notes-requires : goal.sort_notes-requires
sort_notes-requires c = (search (rules, noted_room), search (rules, noted_order))

pub returns : goal.returns
returns c = (search (rules, noted_prepared), search (rules, noted_beside), search rules, search rules)
