-- By the kind before it: in a vector, in a feature, at the front.
use Rattle.fieldfine.proofs.FieldLaws.{field_plain, lent_as}
use Rattle.fieldfine.proofs.field_fine.Goals as goal

pub returns-then-prev-lt-FRID : goal.returns-then-prev-lt-FRID
returns-then-prev-lt-FRID c = c.vector_field.ensures _ _

pub returns : goal.returns
returns c = field_plain (lent_as c.args.d.now c.front_field.ensures)
