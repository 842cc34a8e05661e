use Rattle.topology.proofs.NotesLaws.{filed_start, filed_stands, filed_room, filed_on, filed_done}
use Rattle.topology.proofs.SeenLaws.{filed_names, clear_none, clear_on}
use Rattle.std.proofs.Common.{rules}
use Rattle.topology.proofs.note.put_notes.Goals as goal

pub loop-i-init : goal.loop-i-init
loop-i-init c = (search (rules, filed_start), search (rules, clear_none))

pub seen_of-seen-requires : goal.seen_of-seen-requires
seen_of-seen-requires c = (search (rules, filed_stands), search (rules, filed_names), search rules)

pub put-requires : goal.put-requires
put-requires c = search (rules, filed_room)

pub loop-i-preserved : goal.loop-i-preserved
loop-i-preserved c = (search (rules, filed_on), search (rules, clear_on))

pub returns : goal.returns
returns c = (search (rules, filed_done), search rules)
