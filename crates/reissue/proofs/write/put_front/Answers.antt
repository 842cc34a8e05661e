-- Records 0, 1 and 2, one behind the other. Assumes nothing.
use Rattle.reissue.proofs.PlanLaws.{first_room, dsid_room, dspm_room, front_put}
use Rattle.std.proofs.Common.{rules}
use Rattle.reissue.proofs.write.put_front.Goals as goal

pub put_first-a-requires : goal.put_first-a-requires
put_first-a-requires c = search (rules, first_room)

pub put_dsid_record-b-requires : goal.put_dsid_record-b-requires
put_dsid_record-b-requires c = (search rules, search (rules, dsid_room))

pub put_dspm_record-requires : goal.put_dspm_record-requires
put_dspm_record-requires c = (search rules, search (rules, dspm_room))

pub returns : goal.returns
returns c = search (rules, front_put)
