-- The invariant: what is copied and what the fields that are left bring is the list, and the next field starts at `due`.
use Rattle.std.proofs.Common.{◌-◌}
use Rattle.octets.specs.Area.{Going}
use Rattle.iso8211.specs.Field.{count_at}
use Rattle.iso8211.specs.Premises.{Due}
use Rattle.items.specs.Lists.{list_at, join_from}
use Rattle.joining.proofs.lists.put_list.Given as goal

abbrev pub invariant-loop-j : goal.invariant-loop-j
invariant-loop-j l =
    Due l.r.file.now l.r.at l.j l.due × Going l.initial.out l.place (list_at l.r.file.now l.r.at l.k) l.out l.next (join_from
    (count_at l.r.file.now l.r.at - l.j) l.r.file.now l.r.at l.k l.j)
