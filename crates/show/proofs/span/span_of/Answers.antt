-- The record's end less its start is its length. Assumes nothing.
use Rattle.show.proofs.SightLaws.{span_told}
use Rattle.std.proofs.Common.{rules}
use Rattle.show.proofs.span.span_of.Goals as goal

pub returns : goal.returns
returns c = search (rules, span_told)
