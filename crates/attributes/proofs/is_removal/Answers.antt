-- An entry of four bytes has a value of one, the byte behind ATTL.
use Rattle.std.proofs.Common.{◌∙◌, refl, ne_eqb}
use Rattle.attributes.proofs.AttributesLaws.{removal_short, removal_byte}
use Rattle.attributes.proofs.is_removal.Goals as goal

pub returns-then-n-eq4 : goal.returns-then-n-eq4
returns-then-n-eq4 c = removal_byte _ _ _ _ c.requires.1 c.if-n-eq4.true refl

pub returns-else-n-eq4 : goal.returns-else-n-eq4
returns-else-n-eq4 c = ne_eqb _ _ c.if-n-eq4.false ∙ removal_short _ _ _ c.requires.1 c.if-n-eq4.false
