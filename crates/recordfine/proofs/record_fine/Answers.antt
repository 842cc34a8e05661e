-- The leader, then the fields; what is found of them is read off.
use Rattle.recordfine.proofs.WalkLaws.{fine_not, fine_so}
use Rattle.recordfine.proofs.OpenLaws.{opened_at}
use Rattle.std.proofs.Common.{rules}
use Rattle.recordfine.proofs.record_fine.Goals as goal

pub returns-then-h-eq0 : goal.returns-then-h-eq0
returns-then-h-eq0 c = fine_not _ (search rules)

pub fields_fine-requires : goal.fields_fine-requires
fields_fine-requires c = (search (rules, opened_at), search rules, search rules, search rules)

pub returns-then-not-fields_fine : goal.returns-then-not-fields_fine
returns-then-not-fields_fine c = fine_not _ (search rules)

pub identified-requires : goal.identified-requires
identified-requires c = search (rules, opened_at)

pub returns : goal.returns
returns c = search (rules, fine_so, opened_at)
