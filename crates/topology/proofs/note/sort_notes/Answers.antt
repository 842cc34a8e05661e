-- The words stay while the notes of the features are sorted.
use Rattle.topology.proofs.NotesLaws.{notes_sorted, notes_beside}
use Rattle.std.proofs.Common.{rules}
use Rattle.topology.proofs.note.sort_notes.Goals as goal

pub returns : goal.returns
returns c = (search (rules, notes_sorted), search (rules, notes_beside))
