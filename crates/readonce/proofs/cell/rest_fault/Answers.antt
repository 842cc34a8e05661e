-- The pass read all, or the reading goes on where it stopped.
use Rattle.readonce.proofs.CellLaws.{rest_passed, rest_is, rest_held, rest_lent, rest_read}
use Rattle.readonce.proofs.cell.rest_fault.Goals as goal

pub passed_fault-requires : goal.passed_fault-requires
passed_fault-requires c = rest_passed c.requires c.if-count-ne0.true

pub returns-then-count-ne0 : goal.returns-then-count-ne0
returns-then-count-ne0 c = record {
  value = rest_is c.requires c.if-count-ne0.true c.passed_fault.ensures.value;
  held_in = rest_held c.requires c.if-count-ne0.true c.passed_fault.ensures.held_in;
}

pub cell_fault_from-requires : goal.cell_fault_from-requires
cell_fault_from-requires c = (rest_lent c.requires, rest_read c.requires)
