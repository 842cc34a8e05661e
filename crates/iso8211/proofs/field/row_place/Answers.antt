-- A row of the directory lies in the record.
use Rattle.std.proofs.Common.{arith, refl}
use Rattle.iso8211.proofs.DirectoryLaws.{row_within}
use Rattle.iso8211.proofs.field.row_place.Goals as goal

pub overflow_add-result-2 : goal.overflow_add-result-2
overflow_add-result-2 c = omega (arith, row_within c.requires)

pub overflow_mul-result : goal.overflow_mul-result
overflow_mul-result c = omega (arith, row_within c.requires)

pub overflow_add-result-4 : goal.overflow_add-result-4
overflow_add-result-4 c = omega (arith, row_within c.requires)

pub returns : goal.returns
returns c = (refl, row_within c.requires)
