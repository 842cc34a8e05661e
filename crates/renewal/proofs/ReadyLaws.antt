-- What the crate above has of a result is what the writer asks for. Assumes nothing.
use Prim.Native.Nat.{ℕ, ◌≤◌}
use mathlib.Core.List.{List, map}
use mathlib.Core.Path.{◌≡◌, refl}
use native.Mathlib.Omega.{arith}
use lib.ListN.{length}
use Rattle.merge.specs.Places.{places_of}
use Rattle.resultitems.specs.Result.{object_of}
use Rattle.resultitems.specs.Able.{Laid}
use Rattle.resultitems.specs.Items.{objects_in, Items}

-- what the items stand for
pub objects_are : (cell update work : List ℕ) (end count edits : ℕ) → objects_in cell update work end count edits ≡ map (object_of cell update) (places_of work end count edits)
unfolding objects_in
objects_are cell update work end count edits = refl

pub laid_items : {cell update work : List ℕ} {end count edits : ℕ} → Laid cell update work end count edits → count ≤ 65536 → Items cell update work end count edits
laid_items laid few = record { woof = laid.woof; few = few; able = laid.able }

-- another work area in which the walk meets the same items
module _ (cell update a b : List ℕ) (end count edits : ℕ) (long : length b ≡ length a) (same : places_of b end count edits ≡ places_of a end count edits) where
  pub items_kept : Items cell update a end count edits → Items cell update b end count edits
  items_kept so = let room = so.woof.room in record { woof = record { room = omega arith; few = so.woof.few }; few = so.few; able = rw same so.able }

  pub objects_kept : objects_in cell update b end count edits ≡ objects_in cell update a end count edits
  unfolding objects_in
  objects_kept = rw same
