-- The records behind an item of the result: they are laid out where its words say. Nothing here need be believed. Assumes nothing.
use Rattle.std.specs.Prelude.{ℕ, List, [], ◌∷◌, ◌≡◌}
use Rattle.items.specs.Premises.{LaidOut, Identified}
use Rattle.items.specs.Identity.{ruin_at, name_at}
use Rattle.items.specs.Word.{name_of, word_offset, mark_of, marked_offset}
use Rattle.merge.specs.declared.walk.At.{At}

-- the record of s at a word's place, marked or not, is laid out, has the word's name, and is such a one
pub record Sits (such : ℕ → Type 0) (s : List ℕ) (w : ℕ) : Type 0 where
  pub is : such (marked_offset w)
  pub laid : LaidOut s (marked_offset w)
  pub known : Identified s (marked_offset w)
  pub name : name_of w ≡ name_at s (marked_offset w)

-- `of_cell` and `of_update` are whatever is known of the places of the two files' records. An item of the result is one of the cell a, or where its word is marked one that the
-- update b inserts; only one of the cell is changed, by
-- a record of b that has its name and doesn't delete
pub record Sited (of_cell of_update : ℕ → Type 0) (a b : List ℕ) (p : At) : Type 0 where
  pub mark : mark_of p.word ≡ 1 → Sits of_update b p.word
  pub plain : mark_of p.word ≡ 0 → Sits of_cell a p.word
  pub held : p.change ≡ 1 → mark_of p.word ≡ 0
  pub by : p.change ≡ 1 → Sits of_update b p.by
  pub same : p.change ≡ 1 → name_of p.by ≡ name_of p.word
  pub edit : p.change ≡ 1 → ruin_at b (marked_offset p.by) ≡ 2 → ⊥

pub data AllSited (of_cell of_update : ℕ → Type 0) (a b : List ℕ) : List At → Type 0 where
  sited_none : AllSited of_cell of_update a b []
  sited_more : {p : At} {ps : List At} → Sited of_cell of_update a b p → AllSited of_cell of_update a b ps → AllSited of_cell of_update a b (p ∷ ps)

-- the places of these words are such
pub data AllOffsets (such : ℕ → Type 0) : List ℕ → Type 0 where
  places_none : AllOffsets such []
  places_more : {w : ℕ} {ws : List ℕ} → such (word_offset w) → AllOffsets such ws → AllOffsets such (w ∷ ws)

-- the records of the items that come of the update insert
pub data AllInsert (b : List ℕ) : List At → Type 0 where
  insert_none : AllInsert b []
  insert_more : {p : At} {ps : List At} → (mark_of p.word ≡ 1 → ruin_at b (marked_offset p.word) ≡ 1) → AllInsert b ps → AllInsert b (p ∷ ps)
