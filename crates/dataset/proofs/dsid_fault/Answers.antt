-- The four parts in turn; that the ends in hand are those of the field gives each its room.
use Rattle.std.proofs.Common.{arith, rules}
use Rattle.values.specs.Fault.{told, first}
use Rattle.dataset.specs.Dsid.{dsid_fault, dsid_over}
use Rattle.dataset.proofs.DsidLaws.{ends_filled}
use Rattle.dataset.proofs.dsid_fault.Goals as goal

pub head_fault-requires : goal.head_fault-requires
head_fault-requires c = let h = ends_filled _ _ c.dsid_ends-e.ensures c.requires in omega arith

pub returns-in_err-head_fault : goal.returns-in_err-head_fault
unfolding dsid_fault dsid_over told first
returns-in_err-head_fault c = search rules

pub names_fault-requires : goal.names_fault-requires
names_fault-requires c = search (rules, ends_filled)

pub returns-in_err-names_fault : goal.returns-in_err-names_fault
unfolding dsid_fault dsid_over told first
returns-in_err-names_fault c = search rules

pub overflow_add-e : goal.overflow_add-e
overflow_add-e c = let h = ends_filled _ _ c.dsid_ends-e.ensures c.requires in omega arith

pub issue_fault-requires : goal.issue_fault-requires
issue_fault-requires c = let h = ends_filled _ _ c.dsid_ends-e.ensures c.requires in omega arith

pub returns-in_err-issue_fault : goal.returns-in_err-issue_fault
unfolding dsid_fault dsid_over told first
returns-in_err-issue_fault c = search rules

pub product_fault-requires : goal.product_fault-requires
product_fault-requires c = search (rules, ends_filled)

pub returns : goal.returns
unfolding dsid_fault dsid_over told first
returns c = search rules
