-- The walk over the result in held order. It serves the proofs, and nothing here need be believed. Assumes nothing.
use Rattle.std.specs.Prelude.{ℕ, ◌+◌, ◌-◌, ◌*◌, ◌≤◌, cond, List, [], ◌∷◌, ◌≡◌, eqb, length}
use Rattle.words.specs.Words.{words_in}
use Rattle.items.specs.Word.{name_of}
use Rattle.merge.specs.Area.{words_back}
use Rattle.merge.specs.declared.walk.At.{At}

-- each word of ws stands for a thing (`one`); where the next of the modifies has its name, that changes it (`both`)
unfoldable pub joined : {A : Type 0} → (ℕ → A) → (ℕ → ℕ → A) → List ℕ → List ℕ → List A
joined one both [] ms = []
joined one both (w ∷ ws) [] = one w ∷ joined one both ws []
joined one both (w ∷ ws) (m ∷ ms) = cond (eqb (name_of w) (name_of m)) (both w m ∷ joined one both ws ms) (one w ∷ joined one both ws (m ∷ ms))

-- an item of the result as the walk meets it: its word alone, or with that of the record that modifies it
abbrev pub single : ℕ → At
single w = record { word = w; change = 0; by = 0 }

abbrev pub double : ℕ → ℕ → At
double w m = record { word = w; change = 1; by = m }

-- what it stands for, where a word stands for `one` of it and `edit` is what the record of a word makes of a thing
abbrev pub thing_of : {A : Type 0} → (ℕ → A) → (ℕ → A → A) → At → A
thing_of one edit a = cond (eqb a.change 0) (one a.word) (edit a.by (one a.word))

-- the items of a result of `count` words, which stand in front, and `edits` modifies, which stand before word `end`, from the last to the
-- first; from item i on, j of the modifies being behind
unfoldable pub places_from : List ℕ → ℕ → ℕ → ℕ → ℕ → ℕ → List At
places_from work end count edits i j = joined single double (words_in work i (count - i)) (words_back work (end - j) (edits - j))

unfoldable pub places_of : List ℕ → ℕ → ℕ → ℕ → List At
places_of work end count edits = places_from work end count edits 0 0

-- a work area that has them
pub record Woof (work : List ℕ) (end count edits : ℕ) : Type 0 where
  pub room : 8 * end ≤ length work
  pub few : count + edits ≤ end

-- the item in front, and the rest
pub record Headed (work : List ℕ) (end count edits i j : ℕ) (a : At) : Type 0 where
  pub is : places_from work end count edits i j ≡ a ∷ places_from work end count edits (i + 1) (j + a.change)
  pub one : a.change ≤ 1
  pub left : j + a.change ≤ edits
