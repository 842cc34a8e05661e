use Rattle.std.proofs.Common.{rules}
use Rattle.raising.proofs.FrontLaws.{version_next, version_last, version_put, version_end}
use Rattle.raising.proofs.heading.put_version.Goals as goal

pub put1-b-requires : goal.put1-b-requires
put1-b-requires c = search (rules, version_next)

pub put1-requires : goal.put1-requires
put1-requires c = search (rules, version_last)

pub returns : goal.returns
returns c = (search (rules, version_put), search (rules, version_end))
