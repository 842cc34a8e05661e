-- The table is filled, marked and cleared; between them the held attributes and the new ones are written.
use Rattle.std.proofs.Common.{rules}
use Rattle.labelled.proofs.OnceLaws.{worked_first, fresh_next, attributes_put, blank_again}
use Rattle.labelled.proofs.labels.put_attributes.Goals as goal

pub put_worked-next-requires : goal.put_worked-next-requires
put_worked-next-requires c = (search rules, search rules, search (rules, worked_first))

pub put_fresh-requires : goal.put_fresh-requires
put_fresh-requires c =
    (search rules, search rules, fresh_next (search rules) c.index.ensures c.put_worked-next.ensures.1 c.put_worked-next.ensures.0 (search rules))

pub returns : goal.returns
returns c = (search (rules, attributes_put), search (rules, blank_again))
