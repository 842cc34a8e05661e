-- A primitive makes a list of one, no primitive makes none.
use Rattle.formats.proofs.FormatsLaws.{alone_none, alone_some}
use Rattle.std.proofs.Common.{rules}
use Rattle.formats.proofs.alone.Goals as goal

pub returns-then-p-eq0 : goal.returns-then-p-eq0
returns-then-p-eq0 c = search (rules, alone_none)

pub returns : goal.returns
returns c = search (rules, alone_some)
