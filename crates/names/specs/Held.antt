-- The items of a cell in held order, and what can be asked of them all: where a name stands, whether a feature has a FOID. Assumes nothing.
use Rattle.std.specs.Prelude.{ℕ, zero, suc, ◌+◌, ◌-◌, Bool, false, cond, ◌&&◌, ◌||◌, List, [], ◌∷◌, eqb, leb, Option, Some, None}
use Rattle.iso8211.specs.Record.{end_of}
use Rattle.iso8211.specs.File.{record_at}
use Rattle.items.specs.Identity.{name_at}
use Rattle.items.specs.Item.{Item, item_name}
use Rattle.names.specs.Names.{items_from}

-- "vectors by class 110, 120, 130, then features, RCID ascending": one of these put among those, by its name
unfoldable pub insert_by : {A : Type 0} → (A → ℕ) → A → List A → List A
insert_by name x [] = x ∷ []
insert_by name x (y ∷ ys) = cond (leb (name x) (name y)) (x ∷ y ∷ ys) (y ∷ insert_by name x ys)

unfoldable pub order_by : {A : Type 0} → (A → ℕ) → List A → List A
order_by name [] = []
order_by name (x ∷ xs) = insert_by name x (order_by name xs)

abbrev pub held_order : List Item → List Item
held_order is = order_by item_name is

-- the items of a cell of n records in held order
unfoldable pub held_items : List ℕ → ℕ → List Item
held_items s n = held_order (items_from (n - 3) s (record_at s 3))

-- where the records of n items start, from the one at `at` on
unfoldable pub offsets_from : ℕ → List ℕ → ℕ → List ℕ
offsets_from zero s at = []
offsets_from (suc n) s at = at ∷ offsets_from n s (end_of s at)

-- and in held order
unfoldable pub held_offsets : List ℕ → ℕ → List ℕ
held_offsets s n = order_by (name_at s) (offsets_from (n - 3) s (record_at s 3))

-- the first item that has this name, the first of these items being item k
unfoldable pub place_from : ℕ → List Item → ℕ → Option ℕ
place_from k [] name = None
place_from k (i ∷ is) name = cond (eqb (item_name i) name) (Some k) (place_from (k + 1) is name)

unfoldable pub place_in : List Item → ℕ → Option ℕ
place_in all name = place_from 0 all name

-- whether a feature has this FOID
unfoldable pub object_in : List Item → ℕ → Bool
object_in [] foid = false
object_in (i ∷ is) foid = (eqb i.rcnm 100 && eqb i.foid foid) || object_in is foid
