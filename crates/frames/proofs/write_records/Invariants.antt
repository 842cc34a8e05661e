-- The invariant: record k starts at `at`, and what waits fits the area.
use Rattle.std.proofs.Common.{◌≤◌, ◌≡◌}
use Rattle.iso8211.specs.File.{record_at}
use Rattle.frames.proofs.write_records.Given as goal

abbrev pub invariant-loop-k : goal.invariant-loop-k
invariant-loop-k l = (l.used ≤ 4096) × (l.at ≡ record_at l.file l.k)
