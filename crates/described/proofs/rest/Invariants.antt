-- The invariant: the answer from field j on, with the marks so far, is the answer from field 2 on.
use Rattle.std.proofs.Common.{◌-◌, ◌≡◌, length}
use Rattle.table.specs.Table.{kind_count}
use Rattle.iso8211.specs.Field.{count_at}
use Rattle.declarations.specs.Described.{described_from, none}
use Rattle.described.proofs.rest.Given as goal

abbrev pub invariant-loop-j : goal.invariant-loop-j
invariant-loop-j l = (length l.marks ≡ kind_count) × (described_from (count_at l.s 0 - 2) l.s 2 none ≡ described_from (count_at l.s 0 - l.j) l.s l.j l.marks)
