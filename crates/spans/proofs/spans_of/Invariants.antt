-- The invariant: each list is the bytes of its span and what comes from field j on.
use Rattle.iso8211.specs.Premises.{Due}
use Rattle.spans.specs.Spans.{SpanTo}
use Rattle.spans.proofs.spans_of.Given as goal

abbrev pub invariant-loop-j : goal.invariant-loop-j
invariant-loop-j l =
    Due l.r.file.now l.r.at l.j l.due × SpanTo l.r.file.now l.r.at l.a l.j l.sp.one × SpanTo l.r.file.now l.r.at l.b l.j l.sp.two × SpanTo l.r.file.now l.r.at l.c l.j l.sp.three
