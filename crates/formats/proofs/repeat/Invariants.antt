-- The invariant: what is led with all repeats is what stands now with those left.
use Rattle.formats.proofs.FormatsLaws.{Repeating}
use Rattle.formats.proofs.repeat.Given as goal

abbrev pub invariant-loop : goal.invariant-loop
invariant-loop l = Repeating l.initial.all l.times l.part l.all l.counter
