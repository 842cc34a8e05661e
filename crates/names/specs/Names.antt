-- The vectors and features of a file, and the first name that is met twice. Assumes nothing.
use Rattle.std.specs.Prelude.{ℕ, zero, suc, ◌+◌, ◌-◌, Bool, cond, eqb, List, [], ◌∷◌, Option, Some, None}
use Rattle.octets.specs.Lists.{is_in}
use Rattle.iso8211.specs.Record.{end_of}
use Rattle.iso8211.specs.File.{record_at}
use Rattle.items.specs.Item.{Item, item_at, item_name}
use Rattle.names.specs.declared.twice.Repeat.{Repeat}

-- the first record of a vector or a feature: record 3 of a cell, record 2 of an update, which has no DSPM
unfoldable pub first_item : Bool → ℕ
first_item update = cond update 2 3

-- the items of n records from the one at `at` on, as the file has them
unfoldable pub items_from : ℕ → List ℕ → ℕ → List Item
items_from zero s at = []
items_from (suc n) s at = item_at s at ∷ items_from n s (end_of s at)

-- "a name met before in its file", "first repeat": the item, counted from k on; 0: there is none. `seen` are the names of the items before
unfoldable pub twice_from : ℕ → List ℕ → List Item → ℕ
twice_from k seen [] = 0
twice_from k seen (i ∷ is) = cond (is_in (item_name i) seen) k (twice_from (k + 1) (item_name i ∷ seen) is)

-- the record of a file of n records that it is
unfoldable pub first_twice : Bool → List ℕ → ℕ → ℕ
first_twice update s n = twice_from (first_item update) [] (items_from (n - first_item update) s (record_at s (first_item update)))

-- and where it starts
unfoldable pub twice_of : Bool → List ℕ → ℕ → Repeat
twice_of update s n = record { index = first_twice update s n; offset = record_at s (first_twice update s n) }

-- how the code tells it: None where there is none
unfoldable pub met_twice : Repeat → Option Repeat
met_twice t = cond (eqb t.index 0) None (Some t)
