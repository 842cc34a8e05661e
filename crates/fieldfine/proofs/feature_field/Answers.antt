-- A list of attributes at its level, or any other field.
use Rattle.fieldfine.proofs.FieldLaws.{field_attf, field_natf, field_plain}
use Rattle.fieldfine.proofs.feature_field.Goals as goal

pub returns-then-tag-eq-ATTF : goal.returns-then-tag-eq-ATTF
returns-then-tag-eq-ATTF c = field_attf c.if-tag-eq-ATTF.true c.attributes_field.ensures

pub returns-then-tag-eq-NATF : goal.returns-then-tag-eq-NATF
returns-then-tag-eq-NATF c = field_natf c.if-tag-eq-NATF.true c.attributes_field-then-tag-eq-NATF.ensures

pub returns : goal.returns
returns c = field_plain c.feature_plain.ensures
