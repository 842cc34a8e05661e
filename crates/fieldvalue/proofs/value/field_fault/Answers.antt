-- A list of attributes at its level, or any other field.
use Rattle.fieldvalue.proofs.ValueLaws.{attv_whole, attf_whole, natf_whole, judged_attv, judged_attf, judged_natf, judged_plain, attributes_none}
use Rattle.fieldvalue.proofs.value.field_fault.Goals as goal

pub attributes_fault-requires : goal.attributes_fault-requires
attributes_fault-requires c = (attv_whole c.if-k-eq-ATTV.true c.requires.0, c.requires.1)

pub returns-then-k-eq-ATTV : goal.returns-then-k-eq-ATTV
returns-then-k-eq-ATTV c = judged_attv c.if-k-eq-ATTV.true c.attributes_fault.ensures

pub attributes_fault-requires-then-k-eq-ATTF : goal.attributes_fault-requires-then-k-eq-ATTF
attributes_fault-requires-then-k-eq-ATTF c = (attf_whole c.if-k-eq-ATTF.true c.requires.0, c.requires.1)

pub returns-then-k-eq-ATTF : goal.returns-then-k-eq-ATTF
returns-then-k-eq-ATTF c = judged_attf c.if-k-eq-ATTF.true c.attributes_fault-then-k-eq-ATTF.ensures

pub attributes_fault-requires-then-k-eq-NATF : goal.attributes_fault-requires-then-k-eq-NATF
attributes_fault-requires-then-k-eq-NATF c =
    (natf_whole c.if-k-eq-NATF.true c.requires.0, c.requires.1)

pub returns-then-k-eq-NATF : goal.returns-then-k-eq-NATF
returns-then-k-eq-NATF c = judged_natf c.if-k-eq-NATF.true c.attributes_fault-then-k-eq-NATF.ensures

pub plain_fault-requires : goal.plain_fault-requires
plain_fault-requires c = (c.requires.0, attributes_none _ c.if-k-eq-ATTV.false c.if-k-eq-ATTF.false c.if-k-eq-NATF.false)

pub returns : goal.returns
returns c = judged_plain (attributes_none _ c.if-k-eq-ATTV.false c.if-k-eq-ATTF.false c.if-k-eq-NATF.false) c.plain_fault.ensures
