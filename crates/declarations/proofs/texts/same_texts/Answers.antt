-- Each test is the definition's, by the parts.
use Rattle.declarations.proofs.DescribedLaws.{labels_other, formats_left}
use Rattle.std.proofs.Common.{rules}
use Rattle.declarations.proofs.texts.same_texts.Goals as goal

pub returns-then-not-same_bytes : goal.returns-then-not-same_bytes
returns-then-not-same_bytes c = search (rules, labels_other)

pub returns : goal.returns
returns c = search (rules, formats_left)
