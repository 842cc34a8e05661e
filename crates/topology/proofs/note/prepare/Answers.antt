-- The words stay while the notes are put and sorted.
use Rattle.topology.proofs.NotesLaws.{put_order, put_prepared}
use Rattle.std.proofs.Common.{rules}
use Rattle.topology.proofs.note.prepare.Goals as goal

pub sort_notes-requires : goal.sort_notes-requires
sort_notes-requires c = search (rules, put_order)

pub returns : goal.returns
returns c = (search (rules, put_prepared), search rules)
