-- Each arm is one kind of field.
use Rattle.layout.proofs.Promise.{full_dsid, full_dssi, full_dspm, full_vrid, full_frid}
use Rattle.values.proofs.FaultLaws.{told_within}
use Rattle.dataset.proofs.Promise.{dsid_within}
use Rattle.headvalues.proofs.Promise.{dssi_within, dspm_within, vrid_within, frid_within}
use Rattle.fieldvalue.proofs.ValueLaws.{plain_dsid, plain_dssi, plain_dspm, plain_vrid, plain_frid, plain_ffpt, plain_none, pointers_whole}
use Rattle.fieldvalue.proofs.value.plain_fault.Goals as goal

pub dsid_fault-requires : goal.dsid_fault-requires
dsid_fault-requires c = full_dsid _ (rw c.in-0.is at c.requires.0)

pub dssi_fault-requires : goal.dssi_fault-requires
dssi_fault-requires c = full_dssi _ (rw c.in-1.is at c.requires.0)

pub dspm_fault-requires : goal.dspm_fault-requires
dspm_fault-requires c = full_dspm _ (rw c.in-2.is at c.requires.0)

pub vrid_fault-requires : goal.vrid_fault-requires
vrid_fault-requires c = full_vrid _ (rw c.in-3.is at c.requires.0)

pub frid_fault-requires : goal.frid_fault-requires
frid_fault-requires c = full_frid _ (rw c.in-10.is at c.requires.0)

pub ffpt_fault-requires : goal.ffpt_fault-requires
ffpt_fault-requires c = pointers_whole c.in-15.is c.requires.0

pub returns-in-0 : goal.returns-in-0
returns-in-0 c = plain_dsid (told_within _ _ c.dsid_fault.ensures (dsid_within _ _ (full_dsid _ (rw c.in-0.is at c.requires.0))))
    c.in-0.is c.dsid_fault.ensures

pub returns-in-1 : goal.returns-in-1
returns-in-1 c = plain_dssi (told_within _ _ c.dssi_fault.ensures (dssi_within _ _ (full_dssi _ (rw c.in-1.is at c.requires.0))))
    c.in-1.is c.dssi_fault.ensures

pub returns-in-2 : goal.returns-in-2
returns-in-2 c = plain_dspm (told_within _ _ c.dspm_fault.ensures (dspm_within _ (full_dspm _ (rw c.in-2.is at c.requires.0))))
    c.in-2.is c.dspm_fault.ensures

pub returns-in-3 : goal.returns-in-3
returns-in-3 c = plain_vrid (told_within _ _ c.vrid_fault.ensures (vrid_within _ _ (full_vrid _ (rw c.in-3.is at c.requires.0))))
    c.in-3.is c.vrid_fault.ensures

pub returns-in-10 : goal.returns-in-10
returns-in-10 c = plain_frid (told_within _ _ c.frid_fault.ensures (frid_within _ _ (full_frid _ (rw c.in-10.is at c.requires.0))))
    c.in-10.is c.frid_fault.ensures

pub returns-in-15 : goal.returns-in-15
returns-in-15 c = plain_ffpt c.ffpt_fault.ensures.1 c.in-15.is c.ffpt_fault.ensures.0

pub returns-in_default : goal.returns-in_default
returns-in_default c = plain_none c.in_default.in_default-own.rest.0.0.0.0.0.1 c.in_default.in_default-own.rest.0.0.0.0.1 c.in_default.in_default-own.rest.0.0.0.1 c.in_default.in_default-own.rest.0.0.1 c.in_default.in_default-own.rest.0.1
    c.in_default.in_default-own.rest.1 c.requires.1
