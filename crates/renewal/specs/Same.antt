-- What is found of the records of the result's items before they are written: whether those of the items that aren't changed are the held form's in
-- their files. It serves the code and its proofs, and nothing here need be believed: what is promised of the result is its held form by the
-- definitions of the crates `held` and `changes`. Assumes nothing.
use Rattle.std.specs.Prelude.{ℕ, Bool, true, List, [], ◌∷◌, ◌≡◌}
use Rattle.items.specs.Word.{mark_of, marked_offset}
use Rattle.asheld.specs.Held.{Same}
use Rattle.merge.specs.declared.walk.At.{At}

-- where r is true, so it is
pub record Told (r : Bool) (So : Type 0) : Type 0 where
  pub is : r ≡ true → So

-- the record of an item that isn't changed is the held form's where it stands, in the cell or in the update, but for its running number; nothing is
-- said of a changed one
pub record SameAt (cell update : List ℕ) (p : At) : Type 0 where
  pub kept : (p.change ≡ 1 → ⊥) → (mark_of p.word ≡ 1 → ⊥) → Same cell (marked_offset p.word)
  pub new : (p.change ≡ 1 → ⊥) → mark_of p.word ≡ 1 → Same update (marked_offset p.word)

-- of all these items
pub data AllSame (cell update : List ℕ) : List At → Type 0 where
  same_none : AllSame cell update []
  same_more : {p : At} {ps : List At} → SameAt cell update p → AllSame cell update ps → AllSame cell update (p ∷ ps)
