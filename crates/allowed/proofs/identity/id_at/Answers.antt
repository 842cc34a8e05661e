-- The identifier field is field 1.
use Rattle.std.proofs.Common.{ap}
use Rattle.iso8211.specs.declared.field.Field.{Field}
use Rattle.allowed.proofs.identity.id_at.Goals as goal

pub returns : goal.returns
returns c = ap (λ (f : Field). f.start) c.field-f.ensures
