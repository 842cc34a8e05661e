-- The plan, by numbers alone: the rows before the lists and those of the lists.
use Rattle.std.proofs.Common.{rules}
use Rattle.writing.proofs.JoinedLaws.{joined_sized}
use Rattle.writing.proofs.joined.size_record.Goals as goal

pub returns : goal.returns
returns c = search (rules, joined_sized)
