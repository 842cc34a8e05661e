-- Repeats among words in held order: a name's words stand side by side there, in the file's order. It serves the proofs, and nothing here need be
-- believed. Assumes nothing.
use Rattle.std.specs.Prelude.{ℕ, cond, List, [], ◌∷◌, eqb, leb}
use Rattle.items.specs.Word.{name_of, word_offset, name_weight}

-- the least place so far, and that of `right` where the word to its left has its name
unfoldable pub lower : ℕ → ℕ → ℕ → ℕ
lower least left right = cond (eqb (name_of left) (name_of right)) (cond (leb least (word_offset right)) least (word_offset right)) least

-- the same for the words from here on, `left` standing before them
unfoldable pub least_from : ℕ → ℕ → List ℕ → ℕ
least_from least left [] = least
least_from least left (w ∷ ws) = least_from (lower least left w) w ws

-- the least place of a word whose left neighbour has its name; 16,777,216, which is no place, where there is none
unfoldable pub least_repeat : List ℕ → ℕ
least_repeat [] = name_weight
least_repeat (w ∷ ws) = least_from name_weight w ws
