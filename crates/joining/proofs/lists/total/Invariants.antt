-- The invariant: the bytes counted and those of the fields that are left are all bytes of the list.
use Rattle.std.proofs.Common.{◌≤◌, ◌+◌, ◌-◌, ◌≡◌, length}
use Rattle.iso8211.specs.Field.{count_at}
use Rattle.items.specs.Lists.{list_at, join_from}
use Rattle.joining.proofs.lists.total.Given as goal

abbrev pub invariant-loop-j : goal.invariant-loop-j
invariant-loop-j l = (l.n ≤ 300000) × (length (list_at l.r.file.now l.r.at l.k) ≡ l.n + length (join_from (count_at l.r.file.now l.r.at - l.j) l.r.file.now l.r.at l.k l.j))
