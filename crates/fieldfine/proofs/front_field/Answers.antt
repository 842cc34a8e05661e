-- Each way out is one tag.
use Rattle.fieldfine.proofs.FieldLaws.{field_first, field_vrid, field_frid}
use Rattle.std.proofs.Common.{rules}
use Rattle.fieldfine.proofs.front_field.Goals as goal

pub returns-then-tag-eq-FIRST : goal.returns-then-tag-eq-FIRST
returns-then-tag-eq-FIRST c = search (rules, field_first)

pub returns-then-tag-eq-VRID : goal.returns-then-tag-eq-VRID
returns-then-tag-eq-VRID c = search (rules, field_vrid)

pub returns-then-tag-eq-FRID : goal.returns-then-tag-eq-FRID
returns-then-tag-eq-FRID c = search (rules, field_frid)
