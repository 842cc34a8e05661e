-- What stands before the lists, then the lists: each has the room that all fields have.
use Rattle.std.proofs.Common.{rules}
use Rattle.writing.proofs.JoinedLaws.{fields_lead, fields_rest, fields_put}
use Rattle.writing.proofs.joined.put_fields.Goals as goal

pub put_lead-a-requires : goal.put_lead-a-requires
put_lead-a-requires c = (search rules, search (rules, fields_lead))

pub put_lists-requires : goal.put_lists-requires
put_lists-requires c = (search rules, search rules, search (rules, fields_rest))

pub returns : goal.returns
returns c = search (rules, fields_put)
