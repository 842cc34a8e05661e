-- An item's record stands in the cell, in the update, or in the area where it was built: its size and its bytes are those of what the item stands
-- for. Assumes nothing.
use Prim.Native.Nat.{ℕ, ◌+◌, ◌≤◌}
use mathlib.Core.List.{List}
use mathlib.Core.Path.{◌≡◌}
use lib.ListN.{length}
use Rattle.octets.specs.Area.{Wrote}
use Rattle.records.specs.Written.{record_bytes, size_of}
use Rattle.items.specs.Item.{Item, item_at}
use Rattle.itemfields.specs.Fields.{item_pieces}
use Rattle.itemrows.specs.Plain.{Writable, Stood, ItemSized}
use Rattle.items.specs.Word.{mark_of, marked_offset}
use Rattle.merge.specs.declared.walk.At.{At}
use Rattle.resultitems.specs.Able.{Able}
use Rattle.resultitems.specs.Items.{ObjectSized}
use Rattle.resultitems.proofs.ItemLaws.{new_stood, kept_stood}

module _ {s : List ℕ} {at : ℕ} {t : Item} (so : Stood s at t) where
  pub stood_sized : {r : ℕ} → ItemSized s at r → ObjectSized t r
  stood_sized z = record { is = λ n. rw (← so.same) (z.is n); few = z.few }

  pub stood_room : (out : List ℕ) (place number : ℕ) → place + size_of (item_pieces number t) ≤ length out
      → place + size_of (item_pieces number (item_at s at)) ≤ length out
  stood_room out place number h = rw so.same h

  pub stood_wrote : (number : ℕ) {out next : List ℕ} {place r : ℕ} → Wrote out place (record_bytes (item_pieces number (item_at s at))) next r
      → Wrote out place (record_bytes (item_pieces number t)) next r
  stood_wrote number w = rw so.same at w

module _ {cell update : List ℕ} {a : At} (able : Able cell update a) (same : a.change ≡ 1 → ⊥) where
  pub new_writable : mark_of a.word ≡ 1 → Writable update (marked_offset a.word)
  new_writable e = (new_stood able same e).able

  pub kept_writable : (mark_of a.word ≡ 1 → ⊥) → Writable cell (marked_offset a.word)
  kept_writable ne = (kept_stood able same ne).able
