-- Three bytes. Assumes nothing.
use Rattle.header.proofs.PutLaws.{levels_second, levels_third, levels_put, levels_end}
use Rattle.std.proofs.Common.{rules}
use Rattle.header.proofs.dssi.put_levels.Goals as goal

pub put1-b-requires : goal.put1-b-requires
put1-b-requires c = search (rules, levels_second)

pub put1-requires : goal.put1-requires
put1-requires c = search (rules, levels_third)

pub returns : goal.returns
returns c = (search (rules, levels_put), search (rules, levels_end))
