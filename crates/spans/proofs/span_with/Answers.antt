-- By the two tests.
use Rattle.octets.proofs.Tests.{tests}
use Rattle.spans.specs.Spans.{span_with}
use Rattle.spans.proofs.span_with.Goals as goal

pub returns-then-f-tag : goal.returns-then-f-tag
unfolding span_with
returns-then-f-tag c = search tests

pub returns-then-sp : goal.returns-then-sp
unfolding span_with
returns-then-sp c = search tests

pub returns : goal.returns
unfolding span_with
returns c = search tests
