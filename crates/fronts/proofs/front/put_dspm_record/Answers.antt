-- The head by the rows, then the fields. Assumes nothing.
use Rattle.fronts.proofs.FrontLaws.{dspm_head_room, dspm_fields_room, dspm_record_put}
use Rattle.std.proofs.Common.{rules}
use Rattle.fronts.proofs.front.put_dspm_record.Goals as goal

pub put_head-a-requires : goal.put_head-a-requires
put_head-a-requires c = (search rules, (search rules, search (rules, dspm_head_room)))

pub put_dspm_fields-requires : goal.put_dspm_fields-requires
put_dspm_fields-requires c = search (rules, dspm_fields_room)

pub returns : goal.returns
returns c = search (rules, dspm_record_put)
