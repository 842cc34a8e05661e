-- The proof of the cycle of calls {list}. The measure is the levels left, which fall at the call for the inner list.
-- The loop's invariant: the list from the start is what the items from here on make of what is led.
use Rattle.formats.proofs.FormatsLaws.{Listing}
use Rattle.formats.proofs.+list.Given as goal

abbrev pub invariant-loop : goal.invariant-loop
invariant-loop l = Listing l.s l.at l.levels l.led l.from l.counter

abbrev pub decreases-list : goal.decreases-list
decreases-list l = l.levels
