-- The identifier field is field 1: behind a 0001 its position is known.
use Rattle.std.proofs.Common.{ap, rules}
use Rattle.iso8211.specs.declared.field.Field.{Field}
use Rattle.items.proofs.FrontLaws.{front_id}
use Rattle.items.proofs.identity.id_at.Goals as goal

pub returns-then-tag-eq-FIRST : goal.returns-then-tag-eq-FIRST
returns-then-tag-eq-FIRST c = search (rules, front_id)

pub returns : goal.returns
returns c = ap (λ (f : Field). f.start) c.field-f.ensures
