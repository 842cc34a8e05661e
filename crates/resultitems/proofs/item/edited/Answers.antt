use Rattle.std.proofs.Common.{rules}
use Rattle.resultitems.proofs.EditedLaws.{edited_able, edited_stood}
use Rattle.resultitems.proofs.item.edited.Goals as goal

pub put_edited_record-requires : goal.put_edited_record-requires
put_edited_record-requires c = (search (rules, edited_able), search rules, search rules)

pub returns : goal.returns
returns c = (search (rules, edited_stood), record { areas = search rules; long = search rules })
