-- The sizes of the parts are those of the chart's records. Assumes nothing.
use Rattle.reissue.proofs.PlanLaws.{dsid_in_lem, dspm_in, dsid_framed, plan_told, same_told}
use Rattle.std.proofs.Common.{rules}
use Rattle.reissue.proofs.plan.planned.Goals as goal

pub record_end-second-requires : goal.record_end-second-requires
record_end-second-requires c = search (rules, dsid_framed)

pub dsid_total-dsid-requires : goal.dsid_total-dsid-requires
dsid_total-dsid-requires c = search (rules, dsid_in_lem)

pub dspm_total-dspm-requires : goal.dspm_total-dspm-requires
dspm_total-dspm-requires c = search (rules, dspm_in)

pub returns : goal.returns
returns c = (search (rules, plan_told), search (rules, same_told))
