-- The invariant: all entries are those of the fields passed and those from here on.
use Rattle.std.proofs.Common.{◌+◌, ◌-◌, ◌≡◌, length}
use Rattle.iso8211.specs.Field.{count_at}
use Rattle.entries.specs.Entries.{entries_of}
use Rattle.layout.specs.Layout.{shape_of}
use Rattle.items.specs.Lists.{join_from, entries_at}
use Rattle.items.proofs.count.count.Given as goal

abbrev pub invariant-loop-j : goal.invariant-loop-j
invariant-loop-j l = length (entries_at l.r.file.now l.r.at l.k)
    ≡ l.n + length (entries_of (shape_of l.k) (join_from (count_at l.r.file.now l.r.at - l.j) l.r.file.now l.r.at l.k l.j))
