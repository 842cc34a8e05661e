-- The row, and then its field.
use Rattle.recordfine.proofs.FrontLaws.{front_not, content_end, ruled_so}
use Rattle.fieldfine.proofs.FieldLaws.{field_vrid}
use Rattle.std.proofs.Common.{rules}
use Rattle.recordfine.proofs.front.vrid_fine.Goals as goal

pub returns-then-not-row_is : goal.returns-then-not-row_is
returns-then-not-row_is c = front_not

pub slice_bounds-vrid_field-end : goal.slice_bounds-vrid_field-end
slice_bounds-vrid_field-end c = search (rules, content_end)

pub returns : goal.returns
returns c = search (rules, ruled_so, field_vrid)
