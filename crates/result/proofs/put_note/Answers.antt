-- What is seen of the item, its note put.
use Rattle.result.proofs.ClearLaws.{note_put}
use Rattle.std.proofs.Common.{rules}
use Rattle.result.proofs.put_note.Goals as goal

pub returns : goal.returns
returns c = (search (rules, note_put), search rules)
