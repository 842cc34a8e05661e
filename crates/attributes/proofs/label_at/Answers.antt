-- The two bytes at the entry's place are the entry's own.
use Rattle.std.proofs.Common.{rules}
use Rattle.attributes.proofs.AttributesLaws.{label_read}
use Rattle.attributes.proofs.label_at.Goals as goal

pub returns : goal.returns
returns c = (search (rules, label_read), search rules)
