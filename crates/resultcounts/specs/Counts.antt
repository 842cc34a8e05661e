-- The counts along the walk. Nothing here need be believed. Assumes nothing.
use Rattle.std.specs.Prelude.{cond, eqb}
use Rattle.counted.specs.Tallies.{with_vector, with_feature}
use Rattle.counted.specs.declared.counts.Tally.{Tally}
use Rattle.items.specs.Item.{Item}

-- the tally with this object
unfoldable pub with_object : Tally → Item → Tally
with_object t o = cond (eqb o.rcnm 100) (with_feature t o.objl) (with_vector t o.rcnm)
