-- The invariant: the whole tally is what is counted with the records from here on.
use Rattle.std.proofs.Common.{◌-◌, ◌≡◌}
use Rattle.iso8211.specs.File.{record_at}
use Rattle.counted.specs.Tallies.{with_records, tally_of}
use Rattle.counted.proofs.counts.tally_of.Given as goal

abbrev pub invariant-loop : goal.invariant-loop
invariant-loop l = (l.at ≡ record_at l.s l.counter) × (tally_of l.s l.n ≡ with_records l.t (l.n - l.counter) l.s l.at)
