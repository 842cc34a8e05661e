-- The counts by words. Nothing here need be believed. Assumes nothing.
use Rattle.std.specs.Prelude.{ℕ, ◌+◌, cond, List, eqb}
use Rattle.values.specs.Class.{is_geo, is_meta, is_collection}
use Rattle.counted.specs.declared.counts.Tally.{Tally}
use Rattle.items.specs.Item.{Item}
use Rattle.held.specs.Held.{count_in, of_name, of_class}

-- the class of a vector by its rank in held order
unfoldable pub class_of : ℕ → ℕ
class_of rank = cond (eqb rank 0) 110 (cond (eqb rank 1) 120 130)

-- the tally with these objects
unfoldable pub with_objects : Tally → List Item → Tally
with_objects t ts = record {
  meta = t.meta + count_in (of_class is_meta) ts;
  geo = t.geo + count_in (of_class is_geo) ts;
  collection = t.collection + count_in (of_class is_collection) ts;
  isolated = t.isolated + count_in (of_name 110) ts;
  connected = t.connected + count_in (of_name 120) ts;
  edges = t.edges + count_in (of_name 130) ts;
}
