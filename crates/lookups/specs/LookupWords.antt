-- -- The look-up by words, as the code does it; nothing here need be believed. Assumes nothing.
use Rattle.std.specs.Prelude.{ℕ, ◌+◌, Bool, true, cond, List, [], ◌∷◌, ◌≡◌, eqb, Option, Some, None}
use Rattle.items.specs.Word.{name_of, word_offset}
use Rattle.octets.specs.Lists.{is_in}

-- the place of the record that has this name, by the words of all records
unfoldable pub lookup : List ℕ → ℕ → Option ℕ
lookup [] name = None
lookup (w ∷ ws) name = cond (eqb (name_of w) name) (Some (word_offset w)) (lookup ws name)

-- the index of the first word that has this name, the first of these words being word k
unfoldable pub index_from : ℕ → List ℕ → ℕ → Option ℕ
index_from k [] name = None
index_from k (w ∷ ws) name = cond (eqb (name_of w) name) (Some k) (index_from (k + 1) ws name)

-- the index among all words
unfoldable pub index_of : List ℕ → ℕ → Option ℕ
index_of ws name = index_from 0 ws name

-- ---- a guess that is tested
-- where r says yes, the word at index `near` is the first that has this name
pub record FirstTold (ws : List ℕ) (name near : ℕ) (r : Bool) : Type 0 where
  pub is : r ≡ true → Some near ≡ index_of ws name

-- where r says yes, w is one of these words
pub record WordTold (ws : List ℕ) (w : ℕ) (r : Bool) : Type 0 where
  pub is : r ≡ true → true ≡ is_in w ws
