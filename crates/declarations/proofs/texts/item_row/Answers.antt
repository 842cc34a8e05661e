-- Each arm is one row of the table, found by computing.
use Rattle.std.proofs.Common.{◌∙◌, ◌≤◌}
use Rattle.table.proofs.TableLaws.{row_past, past}
use Rattle.table.specs.Text.{bytes}
use Rattle.table.specs.Table.{table, row_of, first}
use Rattle.declarations.proofs.texts.item_row.Goals as goal

pub returns-in-3 : goal.returns-in-3
unfolding row_of table bytes
returns-in-3 c = c.same_texts.ensures ∙ rw c.in-3.is

pub returns-in-4 : goal.returns-in-4
unfolding row_of table bytes
returns-in-4 c = c.same_texts-in-4.ensures ∙ rw c.in-4.is

pub returns-in-5 : goal.returns-in-5
unfolding row_of table bytes
returns-in-5 c = c.same_texts-in-5.ensures ∙ rw c.in-5.is

pub returns-in-6 : goal.returns-in-6
unfolding row_of table bytes
returns-in-6 c = c.same_texts-in-6.ensures ∙ rw c.in-6.is

pub returns-in-7 : goal.returns-in-7
unfolding row_of table bytes
returns-in-7 c = c.same_texts-in-7.ensures ∙ rw c.in-7.is

pub returns-in-8 : goal.returns-in-8
unfolding row_of table bytes
returns-in-8 c = c.same_texts-in-8.ensures ∙ rw c.in-8.is

pub returns-in-9 : goal.returns-in-9
unfolding row_of table bytes
returns-in-9 c = c.same_texts-in-9.ensures ∙ rw c.in-9.is

pub returns-in-10 : goal.returns-in-10
unfolding row_of table bytes
returns-in-10 c = c.same_texts-in-10.ensures ∙ rw c.in-10.is

pub returns-in-11 : goal.returns-in-11
unfolding row_of table bytes
returns-in-11 c = c.same_texts-in-11.ensures ∙ rw c.in-11.is

pub returns-in-12 : goal.returns-in-12
unfolding row_of table bytes
returns-in-12 c = c.same_texts-in-12.ensures ∙ rw c.in-12.is

pub returns-in-13 : goal.returns-in-13
unfolding row_of table bytes
returns-in-13 c = c.same_texts-in-13.ensures ∙ rw c.in-13.is

pub returns-in-14 : goal.returns-in-14
unfolding row_of table bytes
returns-in-14 c = c.same_texts-in-14.ensures ∙ rw c.in-14.is

pub returns-in-15 : goal.returns-in-15
unfolding row_of table bytes
returns-in-15 c = c.same_texts-in-15.ensures ∙ rw c.in-15.is

pub returns-in-16 : goal.returns-in-16
unfolding row_of table bytes
returns-in-16 c = c.same_texts-in-16.ensures ∙ rw c.in-16.is

pub returns-in-17 : goal.returns-in-17
unfolding row_of table bytes
returns-in-17 c = c.same_texts-in-17.ensures ∙ rw c.in-17.is

pub returns-in_default : goal.returns-in_default
unfolding row_of table bytes
returns-in_default c =
    let r = c.in_default.in_default-own.rest in
    let h : first ≤ c.args.k =
    past 17 _ (past 16 _ (past 15 _ (past 14 _ (past 13 _ (past 12 _ (past 11 _ (past 10 _ (past 9 _ (past 8 _ (past 7 _ (past 6 _ (past 5 _ (past 4 _ (past 3 _
    c.requires.1
    r.0.0.0.0.0.0.0.0.0.0.0.0.0.0.1)
    r.0.0.0.0.0.0.0.0.0.0.0.0.0.1)
    r.0.0.0.0.0.0.0.0.0.0.0.0.1)
    r.0.0.0.0.0.0.0.0.0.0.0.1)
    r.0.0.0.0.0.0.0.0.0.0.1)
    r.0.0.0.0.0.0.0.0.0.1)
    r.0.0.0.0.0.0.0.0.1)
    r.0.0.0.0.0.0.0.1)
    r.0.0.0.0.0.0.1)
    r.0.0.0.0.0.1)
    r.0.0.0.0.1)
    r.0.0.0.1)
    r.0.0.1)
    r.0.1)
    r.1 in
    c.same_texts-in_default.ensures ∙ rw (row_past _ h)
