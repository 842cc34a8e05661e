-- The invariant: the entries from the cursor's field on are those from `field` on.
use Rattle.std.proofs.Common.{◌-◌, ◌≡◌}
use Rattle.iso8211.specs.Field.{count_at}
use Rattle.entries.specs.Entries.{entries_of}
use Rattle.layout.specs.Layout.{shape_of}
use Rattle.items.specs.Lists.{join_from}
use Rattle.items.proofs.step.settled.Given as goal

abbrev pub invariant-loop-field : goal.invariant-loop-field
invariant-loop-field l =
    entries_of (shape_of l.k) (join_from (count_at l.r.file.now l.r.at - l.fn.c.field) l.r.file.now l.r.at l.k l.fn.c.field)
    ≡ entries_of (shape_of l.k) (join_from (count_at l.r.file.now l.r.at - l.field) l.r.file.now l.r.at l.k l.field)
