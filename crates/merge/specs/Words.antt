-- The result over the words of records: a name and the place of its record. It serves the proofs, and nothing here need be believed. Assumes nothing.
use Rattle.std.specs.Prelude.{ℕ, Bool, false, cond, not, ◌&&◌, ◌||◌, List, [], ◌∷◌, eqb}
use Rattle.items.specs.Identity.{ruin_at}
use Rattle.items.specs.Word.{name_of, word_offset, mark_of, marked}
use Rattle.merge.specs.Updated.{Rules, updated}

-- ---- the words of an update b: those of records that delete are marked
unfoldable pub with_ruin : List ℕ → ℕ → ℕ
with_ruin b w = cond (eqb (ruin_at b (word_offset w)) 2) (marked w) w

unfoldable pub with_ruins : List ℕ → List ℕ → List ℕ
with_ruins b [] = []
with_ruins b (w ∷ ws) = with_ruin b w ∷ with_ruins b ws

unfoldable pub deletes : ℕ → Bool
deletes u = eqb (mark_of u) 1

-- ---- the result of the words cs of a cell and us of an update, the deletes among them marked
abbrev pub word_rules : Rules ℕ ℕ
word_rules = record { key = name_of; name = name_of; gone = deletes; made = marked; edit = λ (u c : ℕ). c }

-- its words: those of the cell as they are, and those that the update inserts marked
unfoldable pub result_words : List ℕ → List ℕ → List ℕ
result_words cs us = updated word_rules cs us

-- whether a word of cs has this name
unfoldable pub has_name : ℕ → List ℕ → Bool
has_name name [] = false
has_name name (c ∷ cs) = eqb (name_of c) name || has_name name cs

-- the words of the update's records that modify one of the cell
unfoldable pub modifies : List ℕ → List ℕ → List ℕ
modifies cs [] = []
modifies cs (u ∷ us) = cond (has_name (name_of u) cs && not (deletes u)) (u ∷ modifies cs us) (modifies cs us)
