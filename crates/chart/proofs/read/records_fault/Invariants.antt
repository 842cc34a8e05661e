-- The invariant: the answer from the record reached is the answer from record k on.
use Rattle.std.proofs.Common.{◌-◌, ◌≡◌, length}
use Rattle.iso8211.specs.File.{record_at}
use Rattle.chart.specs.Read.{records_fault}
use Rattle.chart.proofs.ReadLaws.{Reading}
use Rattle.chart.proofs.read.records_fault.Given as goal

abbrev pub invariant-loop-k : goal.invariant-loop-k
invariant-loop-k l =
    (l.at ≡ record_at l.s l.k) × (length l.table ≡ 65536)
    × Reading l.update l.marks l.s (records_fault (l.n - l.fn.from.index) l.update l.marks l.s l.fn.from.index l.initial.at l.initial.st) l.n l.table l.k l.at l.st
