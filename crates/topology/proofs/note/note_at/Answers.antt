-- A FOID, the ends of an edge, or nothing.
use Rattle.topology.proofs.NotesLaws.{note_foid, note_ends, note_none, ranked_class}
use Rattle.std.proofs.Common.{rules}
use Rattle.topology.proofs.note.note_at.Goals as goal

pub foid_note-requires : goal.foid_note-requires
foid_note-requires c = (search rules, search rules, search (rules, ranked_class))

pub returns-then-rank-eq3 : goal.returns-then-rank-eq3
returns-then-rank-eq3 c = search (rules, note_foid)

pub returns-then-rank-eq2 : goal.returns-then-rank-eq2
returns-then-rank-eq2 c = search (rules, note_ends)

pub returns : goal.returns
returns c = search (rules, note_none)
