-- The record of an item that the update modifies, as it was built, is the item's. Assumes nothing.
use Prim.Native.Nat.{ℕ}
use mathlib.Core.List.{List}
use mathlib.Core.Path.{◌≡◌}
use Rattle.items.specs.Item.{item_at}
use Rattle.itemrows.specs.Plain.{Stood}
use Rattle.writing.proofs.StoodLaws.{stood}
use Rattle.items.specs.Word.{marked_offset}
use Rattle.merge.specs.declared.walk.At.{At}
use Rattle.changes.specs.Change.{amendment_at}
use Rattle.changes.specs.Updated.{amended}
use Rattle.raising.specs.Record.{Editable, EditedPut}
use Rattle.resultitems.specs.Result.{object_by, changed_by, object_of}
use Rattle.resultitems.specs.Able.{Able}

module _ {cell update : List ℕ} {p : At} (able : Able cell update p) (one : p.change ≡ 1) (at by : ℕ) (word : at ≡ marked_offset p.word) (edit : by ≡ marked_offset p.by) where
  pub edited_able : Editable cell at update by
  edited_able = rw (word, edit) (able.changed one).edit

  object_is : object_of cell update p ≡ amended (amendment_at update by) (item_at cell at)
  unfolding object_by changed_by
  object_is = rw (one, (able.changed one).held, word, edit)

  pub edited_stood : {room : List ℕ} {r : ℕ} → EditedPut cell at update by room r → Stood room r (object_of cell update p)
  edited_stood put =
      rw object_is (stood {aall = (able.changed one).aall} {nall = (able.changed one).nall} 0 (amended (amendment_at update by) (item_at cell at))
      (rw object_is at (able.changed one).good) put.small put.has)
