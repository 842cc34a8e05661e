-- The invariant: record k starts at `at`, and the sum is below 2 ^ 32.
use Rattle.std.proofs.Common.{◌<◌, ◌≡◌}
use Rattle.iso8211.specs.File.{record_at}
use Rattle.probe.proofs.fields.sum_records.Given as goal

abbrev pub invariant-loop-k : goal.invariant-loop-k
invariant-loop-k l = (l.sum < 4294967296) × (l.at ≡ record_at l.file l.k)
