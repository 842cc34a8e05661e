-- An item of the result by the record in which it stands: the cell's, the update's, or one that was built. Assumes nothing.
use Prim.Native.Nat.{ℕ, ◌≤◌}
use mathlib.Core.List.{List}
use mathlib.Core.Path.{◌≡◌, sym, ap, ◌∙◌}
use native.Mathlib.Omega.{arith}
use borrow.Author.Tests.{eq-eqb, ne_eqb}
use Rattle.items.specs.Premises.{LaidOut, Identified}
use Rattle.items.specs.Identity.{rank_of}
use Rattle.items.specs.Item.{item_at, Item}
use Rattle.topology.specs.Notes.{noted_code, Ranked, SeenTold}
use Rattle.topology.specs.declared.seen.Seen.{Seen}
use Rattle.items.specs.Word.{rank_in, mark_of, marked_offset}
use Rattle.itemrows.specs.Plain.{Stood}
use Rattle.writing.proofs.StoodLaws.{stood}
use Rattle.merge.specs.declared.walk.At.{At}
use Rattle.changes.specs.Change.{amendment_at}
use Rattle.changes.specs.Updated.{amended}
use Rattle.raising.specs.Record.{Editable, EditedPut}
use Rattle.resultitems.specs.Result.{object_by, changed_by, object_of}
use Rattle.resultitems.specs.Able.{Able}

-- ---- where the record stands
mark_two : (w : ℕ) → (mark_of w ≡ 1 → ⊥) → mark_of w ≡ 0
mark_two w ne = omega arith

change_two : (n : ℕ) → n ≤ 1 → (n ≡ 1 → ⊥) → n ≡ 0
change_two n low ne = omega arith

module _ {cell update : List ℕ} {p : At} (able : Able cell update p) (same : p.change ≡ 1 → ⊥) where
  unchanged : p.change ≡ 0
  unchanged = change_two p.change able.one same

  pub new_stood : mark_of p.word ≡ 1 → Stood update (marked_offset p.word) (object_of cell update p)
  unfolding object_by
  new_stood e = record { able = able.new unchanged e; same = rw (unchanged, eq-eqb (mark_of p.word) 1 e) }

  pub kept_stood : (mark_of p.word ≡ 1 → ⊥) → Stood cell (marked_offset p.word) (object_of cell update p)
  unfolding object_by
  kept_stood ne = record { able = able.kept unchanged (mark_two p.word ne); same = rw (unchanged, ne_eqb (mark_of p.word) 1 ne) }

  pub new_laid : mark_of p.word ≡ 1 → LaidOut update (marked_offset p.word)
  new_laid e = (able.new unchanged e).laid

  pub new_known : mark_of p.word ≡ 1 → Identified update (marked_offset p.word)
  new_known e = (able.new unchanged e).known

  pub kept_laid : (mark_of p.word ≡ 1 → ⊥) → LaidOut cell (marked_offset p.word)
  kept_laid ne = (able.kept unchanged (mark_two p.word ne)).laid

  pub kept_known : (mark_of p.word ≡ 1 → ⊥) → Identified cell (marked_offset p.word)
  kept_known ne = (able.kept unchanged (mark_two p.word ne)).known

-- ---- the record of one that the update modifies is built
module _ {cell update : List ℕ} {p : At} (able : Able cell update p) (e : p.change ≡ 1) where
  pub changed_edit : Editable cell (marked_offset p.word) update (marked_offset p.by)
  changed_edit = (able.changed e).edit

  pub changed_is : object_of cell update p ≡ amended (amendment_at update (marked_offset p.by)) (item_at cell (marked_offset p.word))
  unfolding object_by changed_by
  changed_is =
      let z = (able.changed e).held in
      rw (e, ne_eqb (mark_of p.word) 1 (λ (f : mark_of p.word ≡ 1). omega arith))

  pub changed_stood : (room : List ℕ) (r : ℕ) → EditedPut cell (marked_offset p.word) update (marked_offset p.by) room r → Stood room r (object_of cell update p)
  changed_stood room r put =
      stood 0 (object_of cell update p) (able.changed e).good (rw changed_is put.small) (rw changed_is put.has)

-- ---- what is seen of an item, and its code, are those of its record
pub stood_seen : {s : List ℕ} {at : ℕ} {t : Item} {comf : ℕ} {ws : List ℕ} {r : Seen} → Stood s at t → SeenTold comf ws (item_at s at) r → SeenTold comf ws t r
stood_seen stood told = rw stood.same at told

pub stood_code : {s : List ℕ} {at : ℕ} {t : Item} (comf : ℕ) (work : List ℕ) (m v r : ℕ) → Stood s at t → r ≡ noted_code comf work m v (item_at s at) → r ≡ noted_code comf work m v t
stood_code comf work m v r stood told = told ∙ ap (λ (u : Item). noted_code comf work m v u) stood.same

-- its word has the rank of the record's class
pub stood_ranked : {cell update s : List ℕ} {at : ℕ} {p : At} → Able cell update p → Stood s at (object_of cell update p) → Ranked s at (rank_in p.word)
stood_ranked {cell} {update} {s} {at} {p} able stood = record {
  laid = stood.able.laid;
  known = stood.able.known;
  is = able.worded.rank ∙ ap (λ (u : Item). rank_of u.rcnm) (sym stood.same);
}
