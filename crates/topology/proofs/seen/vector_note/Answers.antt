-- The ends of an edge, or nothing.
use Rattle.topology.proofs.NotesLaws.{note_ends, note_none}
use Rattle.std.proofs.Common.{rules}
use Rattle.topology.proofs.seen.vector_note.Goals as goal

pub returns-then-rank-ne2 : goal.returns-then-rank-ne2
returns-then-rank-ne2 c = search (rules, note_none)

pub returns : goal.returns
returns c = search (rules, note_ends)
