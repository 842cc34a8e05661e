use Rattle.formats.proofs.FormatsLaws.{repeating_start, repeating_room, repeating_next, repeating_all}
use Rattle.std.proofs.Common.{rules}
use Rattle.formats.proofs.repeat.Goals as goal

pub loop-init : goal.loop-init
loop-init c = search (rules, repeating_start)

pub add-all-requires : goal.add-all-requires
add-all-requires c = (search rules, search rules, search (rules, repeating_room))

pub loop-preserved : goal.loop-preserved
loop-preserved c = search (rules, repeating_next)

pub returns : goal.returns
returns c = search (rules, repeating_all)
