-- Each part has the room that both lists have.
use Rattle.std.proofs.Common.{rules}
use Rattle.splice.proofs.SpliceLaws.{parts_put}
use Rattle.splice.proofs.list.put_parts.Goals as goal

pub returns : goal.returns
returns c = search (rules, parts_put)
