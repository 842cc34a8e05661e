-- An edit of entries is a splice of bytes.
use Rattle.std.proofs.Common.{rules}
use Rattle.splice.proofs.SpliceLaws.{places_rise, edited_put}
use Rattle.splice.proofs.list.put_edited.Goals as goal

pub put_parts-requires : goal.put_parts-requires
put_parts-requires c = (search (rules, places_rise), search rules, search rules)

pub returns : goal.returns
returns c = search (rules, edited_put)
