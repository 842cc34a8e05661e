-- The product, of the entries that are there.
use Rattle.std.proofs.Common.{arith}
use Rattle.entries.proofs.PlaceLaws.{even_place, even_within}
use Rattle.entries.proofs.even_place.Goals as goal

pub overflow_mul-result : goal.overflow_mul-result
overflow_mul-result c = omega (arith, even_within _ _ _ _ _ c.even_extent.ensures.0 c.min.ensures c.requires.1)

pub returns : goal.returns
returns c = (even_place _ _ _ _ _ c.even_extent.ensures.0 c.min.ensures c.requires.1, even_within _ _ _ _ _ c.even_extent.ensures.0 c.min.ensures c.requires.1)
