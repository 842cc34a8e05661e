use Rattle.std.proofs.Common.{refl, sym, ◌∙◌, arith}
use Rattle.readonce.proofs.PassLaws.{passing_start, turn_passed, turn_kind, turn_id, turn_known, turn_few, turn_past, turn_on, records_all, records_not}
use Rattle.readonce.proofs.pass.records_once.Goals as goal

pub loop-at-init : goal.loop-at-init
loop-at-init c = (
  c.requires.wide,
  refl,
  passing_start _ _ _ _ _ _ _ c.requires
      c.no_tally-tally.ensures,
)

pub record_fine-f-requires : goal.record_fine-f-requires
record_fine-f-requires c = (
  c.loop-at.invariant.2.framed.fits,
  c.requires.started.short,
  c.requires.twenty,
  c.loop-at.invariant.0,
)

pub shape_of-table-then-f-eq0 : goal.shape_of-table-then-f-eq0
shape_of-table-then-f-eq0 c = c.record_fine-f.auto.table ∙
    c.loop-at.invariant.0 ∙ sym
    c.requires.wide

pub returns-then-f-eq0 : goal.returns-then-f-eq0
returns-then-f-eq0 c = records_not c.loop-at.invariant.2 _ c.found.ensures

pub keep-requires : goal.keep-requires
keep-requires c =
    let so = c.loop-at.invariant.2 in
    let told = c.record_fine-f.ensures in
    let some = c.if-f-eq0.false in
    let fits = so.framed.fits in
    let below = so.framed.below in
    let short = c.requires.started.short in (
      turn_id so _ told some,
      turn_known so _ told some _ c.first_item-first.ensures.0,
      omega arith,
      omega arith,
    )

pub shape_of-table-then-not-keep : goal.shape_of-table-then-not-keep
shape_of-table-then-not-keep c = c.record_fine-f.auto.table ∙
    c.loop-at.invariant.0 ∙ sym
    c.requires.wide

pub shape_of-area-then-not-keep : goal.shape_of-area-then-not-keep
shape_of-area-then-not-keep c = c.keep.auto.area ∙
    c.loop-at.invariant.1

pub returns-then-not-keep : goal.returns-then-not-keep
returns-then-not-keep c = records_not c.loop-at.invariant.2 _ c.found-then-not-keep.ensures

pub count-tally-requires : goal.count-tally-requires
count-tally-requires c =
    let so = c.loop-at.invariant.2 in
    let told = c.record_fine-f.ensures in
    let some = c.if-f-eq0.false in (
      turn_few so _ told some
          c.requires.started.short,
      turn_id so _ told some,
      turn_known so _ told some _
          c.first_item-first.ensures.0,
    )

pub passed-st-requires : goal.passed-st-requires
passed-st-requires c =
    let so = c.loop-at.invariant.2 in
    let told = c.record_fine-f.ensures in
    let some = c.if-f-eq0.false in
    (turn_passed so _ told some, turn_kind so _ told some)

pub overflow_add-k : goal.overflow_add-k
overflow_add-k c =
    let fits = c.loop-at.invariant.2.framed.fits in
    let below = c.loop-at.invariant.2.framed.below in
    let short = c.requires.started.short in
    omega arith

pub loop-at-smaller : goal.loop-at-smaller
loop-at-smaller c = omega (
  arith,
  turn_past c.loop-at.invariant.2 _
      c.record_fine-f.ensures
      c.if-f-eq0.false,
)

pub loop-at-preserved : goal.loop-at-preserved
loop-at-preserved c = (
  c.record_fine-f.auto.table ∙
      c.loop-at.invariant.0,
  c.keep.auto.area ∙
      c.loop-at.invariant.1,
  turn_on c.loop-at.invariant.2 _
      c.record_fine-f.ensures
      c.if-f-eq0.false
      c.loop-at-test.true _
      c.first_item-first.ensures.0
      c.keep.ensures
      c.if-not-keep.false-raw c.count-tally.ensures _ c.passed-st.ensures,
)

pub returns-then-st-lt2 : goal.returns-then-st-lt2
returns-then-st-lt2 c = records_not c.loop-at.invariant.2 _ c.found-then-st-lt2.ensures

pub returns : goal.returns
returns c = records_all c.loop-at.invariant.2 _ c.loop-at-test.false c.if-st-lt2.false c.found-2.ensures
