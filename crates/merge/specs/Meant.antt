-- Words that stand for things of their names, as proofs take them. Nothing here need be believed. Assumes nothing.
use Rattle.std.specs.Prelude.{ℕ, ◌<◌, List, [], ◌∷◌, ◌≡◌}
use Rattle.items.specs.Word.{name_of, word_offset, marked, mark_weight}
use Rattle.merge.specs.Updated.{Rules}
use Rattle.merge.specs.Words.{deletes}

-- the update's records by words that are marked where they delete
abbrev pub thing_rules : {A : Type 0} → (A → ℕ) → (ℕ → A) → (ℕ → A → A) → Rules A ℕ
thing_rules key one edit = record { key = key; name = name_of; gone = deletes; made = λ (u : ℕ). one (marked u); edit = edit }

-- what each of these words stands for has its name
pub data AllKeyed {A : Type 0} (key : A → ℕ) (one : ℕ → A) : List ℕ → Type 0 where
  keyed_none : AllKeyed key one []
  keyed_more : {w : ℕ} {ws : List ℕ} → key (one w) ≡ name_of w → AllKeyed key one ws → AllKeyed key one (w ∷ ws)

-- each of these words is of a record that begins below the mark
pub data AllLow : List ℕ → Type 0 where
  low_none : AllLow []
  low_more : {w : ℕ} {ws : List ℕ} → word_offset w < mark_weight → AllLow ws → AllLow (w ∷ ws)

-- the words cs of a cell and ws of an update stand for things of their names, and a modify keeps the name
pub record Meant {A : Type 0} (key : A → ℕ) (one : ℕ → A) (edit : ℕ → A → A) (cs ws : List ℕ) : Type 0 where
  pub keep : (u : ℕ) (a : A) → key (edit u a) ≡ key a
  pub cell : AllKeyed key one cs
  pub update : AllKeyed key (λ (w : ℕ). one (marked w)) ws
