-- Each way out is one tag.
use Rattle.fieldfine.proofs.FieldLaws.{field_fspt, field_foid, field_ffpt, lent_as, stop_as}
use Rattle.fieldfine.proofs.feature_plain.Goals as goal

pub returns-then-tag-eq-FSPT : goal.returns-then-tag-eq-FSPT
returns-then-tag-eq-FSPT c = field_fspt (stop_as c.requires.0) c.if-tag-eq-FSPT.true c.groups_field.ensures

pub returns-then-tag-eq-FOID : goal.returns-then-tag-eq-FOID
returns-then-tag-eq-FOID c = field_foid (stop_as c.requires.0) c.if-tag-eq-FOID.true c.single_field.ensures

pub returns-then-tag-eq-FFPT : goal.returns-then-tag-eq-FFPT
returns-then-tag-eq-FFPT c = field_ffpt c.if-tag-eq-FFPT.true c.pointers_field.ensures

pub returns : goal.returns
returns c = lent_as c.args.d.now c.rare_field.ensures
