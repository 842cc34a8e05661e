-- The items of an update's result in held form, in the order of the walk, and their sizes. Nothing here need be believed. Assumes nothing.
use Rattle.std.specs.Prelude.{ℕ, ◌+◌, ◌*◌, ◌≤◌, max, List, map, ◌≡◌, length}
use Rattle.records.specs.Written.{size_of, records_bytes}
use Rattle.items.specs.Item.{Item}
use Rattle.itemfields.specs.Fields.{item_pieces}
use Rattle.held.specs.Held.{items_pieces}
use Rattle.held.specs.Limits.{longest_of}
use Rattle.writing.specs.declared.all.Sizes.{Sizes}
use Rattle.merge.specs.Places.{places_from, places_of, Woof}
use Rattle.resultitems.specs.Result.{object_of}
use Rattle.resultitems.specs.Able.{AllAble}

-- what the items of the result stand for: from item i on, j modifies being behind; and all of them
unfoldable pub objects_from : List ℕ → List ℕ → List ℕ → ℕ → ℕ → ℕ → ℕ → ℕ → List Item
objects_from cell update work end count edits i j = map (object_of cell update) (places_from work end count edits i j)

unfoldable pub objects_in : List ℕ → List ℕ → List ℕ → ℕ → ℕ → ℕ → List Item
objects_in cell update work end count edits = map (object_of cell update) (places_of work end count edits)

-- their records, the first with the running number n
unfoldable pub written_by : ℕ → List Item → List ℕ
written_by n os = records_bytes (items_pieces n os)

-- how long the longest of them is
unfoldable pub most_by : ℕ → List Item → ℕ
most_by n os = longest_of (items_pieces n os)

-- the record of an object in held form has r bytes, whatever its running number
pub record ObjectSized (t : Item) (r : ℕ) : Type 0 where
  pub is : (number : ℕ) → r ≡ size_of (item_pieces number t)
  pub few : r ≤ 1300000

-- the sizes of these records together and of the longest, the first with the running number 3: record 0, DSID and DSPM stand before it
pub record AllSized (os : List Item) (r : Sizes) : Type 0 where
  pub sum_is : r.sum ≡ length (written_by 3 os)
  pub most_is : r.most ≡ most_by 3 os
  pub sum_few : r.sum ≤ 85196800000

-- of all these records those of `rest`, the first with the running number i + 3, are left to be counted
pub record Counted (all : List Item) (i : ℕ) (rest : List Item) (sum most : ℕ) : Type 0 where
  pub sum_is : length (written_by 3 all) ≡ sum + length (written_by (i + 3) rest)
  pub most_is : most_by 3 all ≡ max most (most_by (i + 3) rest)
  pub low : sum ≤ i * 1300000

-- the words of a result in the work area, each of an item whose record can be written
pub record Items (cell update work : List ℕ) (end count edits : ℕ) : Type 0 where
  pub woof : Woof work end count edits
  pub few : count ≤ 65536
  pub able : AllAble cell update (places_of work end count edits)
