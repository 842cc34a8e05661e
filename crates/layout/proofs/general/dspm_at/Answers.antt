-- Record 2 stands behind the first two; its second field is DSPM.
use Rattle.iso8211.proofs.Promise.{framed_headed}
use Rattle.std.proofs.Common.{rules}
use Rattle.layout.proofs.GeneralLaws.{comf_first, comf_second, dspm_framed, dspm_second, dspm_start, dspm_whole}
use Rattle.layout.proofs.general.dspm_at.Goals as goal

pub record_end-first-requires : goal.record_end-first-requires
record_end-first-requires c = search (rules, comf_first)

pub record_end-at-requires : goal.record_end-at-requires
record_end-at-requires c = search (rules, comf_second)

pub head_of-requires : goal.head_of-requires
head_of-requires c = search (rules, framed_headed, dspm_framed)

pub field-f-requires : goal.field-f-requires
field-f-requires c = search (rules, dspm_second)

pub returns : goal.returns
returns c = (search (rules, dspm_start), search (rules, dspm_whole))
