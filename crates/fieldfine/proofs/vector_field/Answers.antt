-- A list of attributes, or any other field.
use Rattle.fieldfine.proofs.FieldLaws.{field_attv, field_plain, lent_as}
use Rattle.fieldfine.proofs.vector_field.Goals as goal

pub returns-then-tag-eq-ATTV : goal.returns-then-tag-eq-ATTV
returns-then-tag-eq-ATTV c = λ aall nall. field_attv c.if-tag-eq-ATTV.true c.attributes_field.ensures

pub returns : goal.returns
returns c = λ aall nall. field_plain (lent_as c.args.d.now c.vector_plain.ensures)
