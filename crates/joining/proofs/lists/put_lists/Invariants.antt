-- The invariant: the fields written and those of the kinds that are left are all fields.
use Rattle.std.proofs.Common.{length, drop}
use Rattle.octets.specs.Area.{Going}
use Rattle.items.specs.Lists.{list_at}
use Rattle.records.specs.Written.{body_of}
use Rattle.itemrows.specs.Joined.{field_pieces}
use Rattle.joining.proofs.lists.put_lists.Given as goal

abbrev pub invariant-loop-k : goal.invariant-loop-k
invariant-loop-k l =
    Going l.initial.out l.place (body_of (field_pieces l.fn.kinds (list_at l.r.file.now l.r.at))) l.out l.next (body_of (field_pieces (drop
    (length l.yielded) l.fn.kinds) (list_at l.r.file.now l.r.at)))
