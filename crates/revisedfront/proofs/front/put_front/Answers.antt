-- Records 0, 1 and 2, one behind the other.
use Rattle.revisedfront.proofs.FrontLaws.{first_room, dsid_room, dspm_room, front_put}
use Rattle.std.proofs.Common.{rules}
use Rattle.revisedfront.proofs.front.put_front.Goals as goal

pub put_first-a-requires : goal.put_first-a-requires
put_first-a-requires c = search (rules, first_room)

pub put_revised_record-b-requires : goal.put_revised_record-b-requires
put_revised_record-b-requires c = (search rules, search rules, search (rules, dsid_room))

pub put_dspm_record-requires : goal.put_dspm_record-requires
put_dspm_record-requires c = (search rules, search (rules, dspm_room))

pub returns : goal.returns
returns c = search (rules, front_put)
