-- Each arm is one row of the table, found by computing.
use Rattle.std.proofs.Common.{ne_eqb, sym, arith}
use Rattle.table.specs.Text.{bytes}
use Rattle.table.specs.Table.{table, kind_of, among, as_number}
use Rattle.table.proofs.kind_of.Goals as goal

pub returns-in-1146308932 : goal.returns-in-1146308932
unfolding kind_of among table as_number bytes
returns-in-1146308932 c = (sym (rw c.in-1146308932.is), omega arith)

pub returns-in-1146311497 : goal.returns-in-1146311497
unfolding kind_of among table as_number bytes
returns-in-1146311497 c = (sym (rw c.in-1146311497.is), omega arith)

pub returns-in-1146310733 : goal.returns-in-1146310733
unfolding kind_of among table as_number bytes
returns-in-1146310733 c = (sym (rw c.in-1146310733.is), omega arith)

pub returns-in-1448233284 : goal.returns-in-1448233284
unfolding kind_of among table as_number bytes
returns-in-1448233284 c = (sym (rw c.in-1448233284.is), omega arith)

pub returns-in-1096045654 : goal.returns-in-1096045654
unfolding kind_of among table as_number bytes
returns-in-1096045654 c = (sym (rw c.in-1096045654.is), omega arith)

pub returns-in-1448235075 : goal.returns-in-1448235075
unfolding kind_of among table as_number bytes
returns-in-1448235075 c = (sym (rw c.in-1448235075.is), omega arith)

pub returns-in-1448235092 : goal.returns-in-1448235092
unfolding kind_of among table as_number bytes
returns-in-1448235092 c = (sym (rw c.in-1448235092.is), omega arith)

pub returns-in-1397179203 : goal.returns-in-1397179203
unfolding kind_of among table as_number bytes
returns-in-1397179203 c = (sym (rw c.in-1397179203.is), omega arith)

pub returns-in-1397174852 : goal.returns-in-1397174852
unfolding kind_of among table as_number bytes
returns-in-1397174852 c = (sym (rw c.in-1397174852.is), omega arith)

pub returns-in-1397175108 : goal.returns-in-1397175108
unfolding kind_of among table as_number bytes
returns-in-1397175108 c = (sym (rw c.in-1397175108.is), omega arith)

pub returns-in-1179797828 : goal.returns-in-1179797828
unfolding kind_of among table as_number bytes
returns-in-1179797828 c = (sym (rw c.in-1179797828.is), omega arith)

pub returns-in-1179601220 : goal.returns-in-1179601220
unfolding kind_of among table as_number bytes
returns-in-1179601220 c = (sym (rw c.in-1179601220.is), omega arith)

pub returns-in-1096045638 : goal.returns-in-1096045638
unfolding kind_of among table as_number bytes
returns-in-1096045638 c = (sym (rw c.in-1096045638.is), omega arith)

pub returns-in-1312904262 : goal.returns-in-1312904262
unfolding kind_of among table as_number bytes
returns-in-1312904262 c = (sym (rw c.in-1312904262.is), omega arith)

pub returns-in-1179013187 : goal.returns-in-1179013187
unfolding kind_of among table as_number bytes
returns-in-1179013187 c = (sym (rw c.in-1179013187.is), omega arith)

pub returns-in-1179013204 : goal.returns-in-1179013204
unfolding kind_of among table as_number bytes
returns-in-1179013204 c = (sym (rw c.in-1179013204.is), omega arith)

pub returns-in-1179865155 : goal.returns-in-1179865155
unfolding kind_of among table as_number bytes
returns-in-1179865155 c = (sym (rw c.in-1179865155.is), omega arith)

pub returns-in-1179865172 : goal.returns-in-1179865172
unfolding kind_of among table as_number bytes
returns-in-1179865172 c = (sym (rw c.in-1179865172.is), omega arith)

pub returns-in-808464433 : goal.returns-in-808464433
unfolding kind_of among table as_number bytes
returns-in-808464433 c = (sym (rw c.in-808464433.is), omega arith)

pub returns-in_default : goal.returns-in_default
unfolding kind_of among table as_number bytes
returns-in_default c = (
  sym (rw (
    ne_eqb _ _ c.in_default.in_default-own.rest.0.0.0.0.0.0.0.0.0.0.0.0.0.0.0.0.0.0.1,
    ne_eqb _ _ c.in_default.in_default-own.rest.0.0.0.0.0.0.0.0.0.0.0.0.0.0.0.0.0.1,
    ne_eqb _ _ c.in_default.in_default-own.rest.0.0.0.0.0.0.0.0.0.0.0.0.0.0.0.0.1,
    ne_eqb _ _ c.in_default.in_default-own.rest.0.0.0.0.0.0.0.0.0.0.0.0.0.0.0.1,
    ne_eqb _ _ c.in_default.in_default-own.rest.0.0.0.0.0.0.0.0.0.0.0.0.0.0.1,
    ne_eqb _ _ c.in_default.in_default-own.rest.0.0.0.0.0.0.0.0.0.0.0.0.0.1,
    ne_eqb _ _ c.in_default.in_default-own.rest.0.0.0.0.0.0.0.0.0.0.0.0.1,
    ne_eqb _ _ c.in_default.in_default-own.rest.0.0.0.0.0.0.0.0.0.0.0.1,
    ne_eqb _ _ c.in_default.in_default-own.rest.0.0.0.0.0.0.0.0.0.0.1,
    ne_eqb _ _ c.in_default.in_default-own.rest.0.0.0.0.0.0.0.0.0.1,
    ne_eqb _ _ c.in_default.in_default-own.rest.0.0.0.0.0.0.0.0.1,
    ne_eqb _ _ c.in_default.in_default-own.rest.0.0.0.0.0.0.0.1,
    ne_eqb _ _ c.in_default.in_default-own.rest.0.0.0.0.0.0.1,
    ne_eqb _ _ c.in_default.in_default-own.rest.0.0.0.0.0.1,
    ne_eqb _ _ c.in_default.in_default-own.rest.0.0.0.0.1,
    ne_eqb _ _ c.in_default.in_default-own.rest.0.0.0.1,
    ne_eqb _ _ c.in_default.in_default-own.rest.0.0.1,
    ne_eqb _ _ c.in_default.in_default-own.rest.0.1,
    ne_eqb _ _ c.in_default.in_default-own.rest.1,
  )),
  omega arith,
)
