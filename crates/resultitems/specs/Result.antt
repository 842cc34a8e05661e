-- The items of an update's result as the walk over its words meets them. It serves the proofs, and nothing here need be believed. Assumes nothing.
use Rattle.std.specs.Prelude.{ℕ, cond, List, map, eqb}
use Rattle.items.specs.Item.{Item, item_at}
use Rattle.items.specs.Word.{mark_of, marked_offset}
use Rattle.merge.specs.Places.{thing_of, places_of}
use Rattle.merge.specs.declared.walk.At.{At}
use Rattle.changes.specs.Change.{amendment_at}
use Rattle.changes.specs.Updated.{amended}

-- what a word of the result stands for: an object of the cell, or where it is marked one that the update inserts
unfoldable pub object_by : List ℕ → List ℕ → ℕ → Item
object_by cell update w = cond (eqb (mark_of w) 1) (item_at update (marked_offset w)) (item_at cell (marked_offset w))

-- what the update's record of the word u makes of an object
unfoldable pub changed_by : List ℕ → ℕ → Item → Item
changed_by update u t = amended (amendment_at update (marked_offset u)) t

-- an item of the result
abbrev pub object_of : List ℕ → List ℕ → At → Item
object_of cell update p = thing_of (object_by cell update) (changed_by update) p

-- all of them, as the topology looks at them
abbrev pub items_by : List ℕ → List ℕ → List At → List Item
items_by cell update ps = map (object_of cell update) ps

abbrev pub result_items : List ℕ → List ℕ → List ℕ → ℕ → ℕ → ℕ → List Item
result_items cell update work end count edits = items_by cell update (places_of work end count edits)
