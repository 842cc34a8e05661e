-- The answer is that of the definition's three tests, by what was written out.
use Rattle.declarations.proofs.DescribedLaws.{formats_none, formats_past, formats_judged}
use Rattle.std.proofs.Common.{rules}
use Rattle.declarations.proofs.texts.formats_same.Goals as goal

pub returns-then-found-eq0 : goal.returns-then-found-eq0
returns-then-found-eq0 c = search (rules, formats_none)

pub returns-then-found-to : goal.returns-then-found-to
returns-then-found-to c = search (rules, formats_past)

pub returns : goal.returns
returns c = search (rules, formats_judged)
