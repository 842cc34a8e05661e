use Rattle.iso8211.proofs.Promise.{framed_at, at_start, at_on, record_in}
use Rattle.std.proofs.Common.{rules}
use Rattle.probe.proofs.fields.sum_records.Goals as goal

pub loop-k-init : goal.loop-k-init
loop-k-init c = search (rules, at_start)

pub record_end-end-requires : goal.record_end-end-requires
record_end-end-requires c = search (rules, framed_at)

pub mix_fields-sum-requires : goal.mix_fields-sum-requires
mix_fields-sum-requires c = search (rules, record_in)

pub loop-k-preserved : goal.loop-k-preserved
loop-k-preserved c = search (rules, at_on)
