-- Each arm is one row of the table, found by computing; those behind it are `item_row`'s.
use Rattle.std.proofs.Common.{◌∙◌, arith, rules}
use Rattle.table.proofs.TableLaws.{past}
use Rattle.table.specs.Text.{bytes}
use Rattle.table.specs.Table.{table, row_of}
use Rattle.declarations.proofs.texts.same_row.Goals as goal

pub item_row-requires : goal.item_row-requires
item_row-requires c =
    let r = c.in_default.in_default-own.rest in
    (search rules, past 2 _ (past 1 _ (past 0 _ (omega arith) r.0.0.1) r.0.1) r.1)

pub returns-in-0 : goal.returns-in-0
unfolding row_of table bytes
returns-in-0 c = c.same_texts.ensures ∙ rw c.in-0.is

pub returns-in-1 : goal.returns-in-1
unfolding row_of table bytes
returns-in-1 c = c.same_texts-in-1.ensures ∙ rw c.in-1.is

pub returns-in-2 : goal.returns-in-2
unfolding row_of table bytes
returns-in-2 c = c.same_texts-in-2.ensures ∙ rw c.in-2.is
