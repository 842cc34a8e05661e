-- The entries from a place on are those behind it.
use Rattle.std.proofs.Common.{rules}
use Rattle.splice.proofs.SpliceLaws.{place_on, place_on_within}
use Rattle.splice.proofs.list.place_behind.Goals as goal

pub overflow_add-result : goal.overflow_add-result
overflow_add-result c = search (rules, place_on_within)

pub returns : goal.returns
returns c = (search (rules, place_on), search (rules, place_on_within))
