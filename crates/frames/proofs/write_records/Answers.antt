use Rattle.iso8211.proofs.Promise.{framed_at, at_start, at_on}
use Rattle.std.proofs.Common.{rules}
use Rattle.frames.proofs.write_records.Goals as goal

pub loop-k-init : goal.loop-k-init
loop-k-init c = search (rules, at_start)

pub put_record-used-requires : goal.put_record-used-requires
put_record-used-requires c = search (rules, framed_at)

pub record_end-at-requires : goal.record_end-at-requires
record_end-at-requires c = search (rules, framed_at)

pub loop-k-preserved : goal.loop-k-preserved
loop-k-preserved c = search (rules, at_on)
