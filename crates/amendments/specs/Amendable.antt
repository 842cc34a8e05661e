-- What the codes of an update's records take of the two files. Nothing here need be believed. Assumes nothing.
use Rattle.std.specs.Prelude.{ℕ, ◌≤◌, ◌<◌, List, ◌≡◌, length, get_or, Option, Some, None, Ok}
use Rattle.std.proofs.Math.Option.{none, some}
use Rattle.std.proofs.Math.Option as maybe
use Rattle.iso8211.specs.File.{frame_of, record_at}
use Rattle.words.specs.Order.{Sorted}
use Rattle.items.specs.Premises.{LaidOut, Identified}
use Rattle.items.specs.Identity.{name_at}
use Rattle.items.specs.Word.{name_of, word_offset}
use Rattle.names.specs.Premises.{AllStand}
use Rattle.items.specs.Item.{Item, item_at}
use Rattle.amend.specs.Pairs.{Paired}

-- the object at the place that a look-up found
unfoldable pub object_found : List ℕ → Option ℕ → maybe.Option Item
object_found s (Some place) = some (item_at s place)
object_found s None = none

-- the words of the cell's items in order, and the record of the update at `by`: the item that it names, if any, is one that it may edit
pub record Amendable (cell ws update : List ℕ) (by : ℕ) : Type 0 where
  pub stand : AllStand cell ws
  pub order : Sorted ws
  pub laid : LaidOut update by
  pub known : Identified update by
  pub each : (p : ℕ) → p < length ws → name_of (get_or ws p 0) ≡ name_at update by → Paired cell (word_offset (get_or ws p 0)) update by

-- each of the update's records is such a one
pub record AllAmendable (cell ws update : List ℕ) (m : ℕ) : Type 0 where
  pub framed : frame_of update ≡ Ok m
  pub two : 2 ≤ m
  pub each : (k : ℕ) → 2 ≤ k → k < m → Amendable cell ws update (record_at update k)
