-- The invariant: of the rest of the line, what is left is that of the numbers that are left.
use Rattle.std.proofs.Common.{drop}
use Rattle.octets.specs.Area.{Going}
use Rattle.listingrows.specs.Text.{tabbed}
use Rattle.listingrows.proofs.text.put_tabbed.Given as goal

abbrev pub invariant-loop-v : goal.invariant-loop-v
invariant-loop-v l = Going l.initial.area l.at (tabbed l.numbers) l.area l.next (tabbed (drop l.v-index l.numbers))
