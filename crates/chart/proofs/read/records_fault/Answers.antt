use Rattle.std.proofs.Common.{◌∙◌, arith}
use Rattle.iso8211.proofs.Promise.{record_in, at_on}
use Rattle.values.proofs.FaultLaws.{place_none}
use Rattle.chart.proofs.ReadLaws.{reading_from, reading_layout, reading_value, reading_on, told_short, told_end, full_of, passing_of}
use Rattle.chart.proofs.read.records_fault.Goals as goal

pub loop-k-init : goal.loop-k-init
loop-k-init c =
    let so = c.requires in
    (so.place, so.wide, reading_from so)

pub layout_fault-requires : goal.layout_fault-requires
layout_fault-requires c = (
  (record_in _ _ c.loop-k.k _ c.requires.framed c.loop-k-test.true c.loop-k.invariant.0),
  c.requires.all,
)

pub returns-in-Err : goal.returns-in-Err
returns-in-Err c = reading_layout c.loop-k.invariant.2 c.loop-k-test.true _ c.layout_fault.ensures.0 c.in-Err.is c.refuse.ensures

pub value_fault-requires : goal.value_fault-requires
value_fault-requires c = (
  full_of _ _ _ _ _ (record_in _ _ c.loop-k.k _ c.requires.framed
      c.loop-k-test.true c.loop-k.invariant.0) (place_none _ c.layout_fault.ensures.0 c.in_default.is),
  (c.requires.short, c.loop-k.invariant.1),
)

pub returns-in-Err-value_fault : goal.returns-in-Err-value_fault
returns-in-Err-value_fault c = reading_value c.loop-k.invariant.2
    c.loop-k-test.true (place_none _ c.layout_fault.ensures.0 c.in_default.is) c.value_fault.ensures _ c.in-Err-value_fault.is c.refuse-in-Err-value_fault.ensures

pub passed-st-requires : goal.passed-st-requires
passed-st-requires c = passing_of _ _ _ _ _ (record_in _ _ c.loop-k.k
    _ c.requires.framed
    c.loop-k-test.true c.loop-k.invariant.0)
    (place_none _ c.layout_fault.ensures.0 c.in_default.is)

pub record_end-at-requires : goal.record_end-at-requires
record_end-at-requires c =
    (record_in _ _ c.loop-k.k
    _ c.requires.framed
    c.loop-k-test.true
    c.loop-k.invariant.0).framed

pub loop-k-preserved : goal.loop-k-preserved
loop-k-preserved c = (
  at_on _ _ _ _ c.loop-k.invariant.0
      c.record_end-at.ensures.0,
  c.value_fault.auto.table
      ∙ c.loop-k.invariant.1,
  reading_on c.loop-k.invariant.2
      c.loop-k-test.true
      (place_none _ c.layout_fault.ensures.0 c.in_default.is)
      c.value_fault.ensures c.in_default-value_fault.is _ _ c.passed-st.ensures c.record_end-at.ensures.0,
)

pub returns-then-st-lt2 : goal.returns-then-st-lt2
returns-then-st-lt2 c = told_short c.loop-k.invariant.2 c.loop-k-test.false _ (omega arith) c.if-st-lt2.true c.refuse-then-st-lt2.ensures

pub returns : goal.returns
returns c = told_end c.loop-k.invariant.2 c.loop-k-test.false c.if-st-lt2.false
