-- Each way out is one tag.
use Rattle.fieldfine.proofs.FieldLaws.{field_sg2d, field_vrpt}
use Rattle.std.proofs.Common.{rules}
use Rattle.fieldfine.proofs.vector_plain.Goals as goal

pub returns-then-tag-eq-SG2D : goal.returns-then-tag-eq-SG2D
returns-then-tag-eq-SG2D c = search (rules, field_sg2d)

pub returns-then-tag-eq-VRPT : goal.returns-then-tag-eq-VRPT
returns-then-tag-eq-VRPT c = search (rules, field_vrpt)
