-- Each return is one way of reading the size.
use Rattle.formats.proofs.FormatsLaws.{sized_bare, sized_zero, sized_open, sized_closed}
use Rattle.std.proofs.Common.{rules}
use Rattle.formats.proofs.sized.Goals as goal
use Rattle.formats.proofs.sized.Goals.{then-size-lt1-via-then-size-lt1, then-size-lt1-via-else-size-lt1+then-byte-ne41}

pub returns-then-byte-ne40 : goal.returns-then-byte-ne40
returns-then-byte-ne40 c = search (rules, sized_bare)

pub returns-then-size-lt1 : goal.returns-then-size-lt1
returns-then-size-lt1 c =
    elim c.then-size-lt1.branch [
      | then-size-lt1-via-then-size-lt1 w ↦ search (rules, sized_zero)
      | then-size-lt1-via-else-size-lt1+then-byte-ne41 w ↦ search (rules, sized_open)
    ]

pub returns : goal.returns
returns c = search (rules, sized_closed)
