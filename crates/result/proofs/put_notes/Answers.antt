use Rattle.result.proofs.NotesLaws.{walked_start, walked_woof, walked_room, walked_able, walked_on, walked_done}
use Rattle.result.proofs.ClearLaws.{clearing_start, walked_names, clearing_on, clearing_done}
use Rattle.std.proofs.Common.{rules}
use Rattle.result.proofs.put_notes.Goals as goal

pub loop-i-init : goal.loop-i-init
loop-i-init c = (search (rules, walked_start), search (rules, clearing_start), search rules)

pub item_at-a-requires : goal.item_at-a-requires
item_at-a-requires c = (search (rules, walked_woof), search rules, search rules)

pub put_note-good-requires : goal.put_note-good-requires
put_note-good-requires c = (search (rules, walked_able), search (rules, walked_names), search (rules, walked_room), search rules, search rules)

pub loop-i-preserved : goal.loop-i-preserved
loop-i-preserved c =
    let put = c.put_note-good.ensures.0 in
    let head = c.item_at-a.ensures in
    let inv = c.loop-i.invariant in
    let walked = inv.0 in
    let clearing = inv.1 in
    let laid = c.requires.0 in (
      walked_on walked laid (search rules) head put,
      clearing_on walked laid clearing (search rules) head put _ c.clear_with-clear.ensures,
      search rules,
    )

pub returns : goal.returns
returns c = (search (rules, walked_done), search (rules, clearing_done), search rules)
