-- The invariant of `spans_of`, of two lists.
use Rattle.iso8211.specs.Premises.{Due}
use Rattle.spans.specs.Spans.{SpanTo}
use Rattle.spans.proofs.two_spans_of.Given as goal

abbrev pub invariant-loop-j : goal.invariant-loop-j
invariant-loop-j l =
    Due l.r.file.now l.r.at l.j l.due × SpanTo l.r.file.now l.r.at l.a l.j l.one × SpanTo l.r.file.now l.r.at l.b l.j l.two
