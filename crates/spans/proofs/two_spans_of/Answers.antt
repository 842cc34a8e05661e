use Rattle.spans.proofs.SpanLaws.{span_start, span_end, turn_some, turn_fits, turn_due, turn_span}
use Rattle.std.proofs.Common.{rules}
use Rattle.spans.proofs.two_spans_of.Goals as goal

pub loop-j-init : goal.loop-j-init
loop-j-init c = (search rules, search (rules, span_start), search (rules, span_start))

pub span_with-one-requires : goal.span_with-one-requires
span_with-one-requires c = (search (rules, turn_some), search (rules, turn_fits))

pub span_with-two-requires : goal.span_with-two-requires
span_with-two-requires c = (search (rules, turn_some), search (rules, turn_fits))

pub field_end-due-requires : goal.field_end-due-requires
field_end-due-requires c = search (rules, turn_fits)

pub loop-j-preserved : goal.loop-j-preserved
loop-j-preserved c = (search (rules, turn_due), search (rules, turn_span), search (rules, turn_span))

pub returns : goal.returns
returns c = (search (rules, span_end), search (rules, span_end))
