-- The words in the work area while they are woven. Of n words of a cell and m of an update, h = n + m: the area has 2 * h words, and in its second
-- half those of the cell stand before those of the update. It serves the proofs, and nothing here need be believed. Assumes nothing.
use Rattle.std.specs.Prelude.{ℕ, zero, suc, ◌+◌, ◌-◌, ◌*◌, ◌^◌, ◌≤◌, ◌<◌, List, [], ◌∷◌, ◌++◌, ◌≡◌, length, take, drop}
use Rattle.words.specs.Words.{word_at, words_in, put_at}
use Rattle.names.specs.Premises.{Strict, AllStand}
use Rattle.merge.specs.Words.{with_ruins, result_words, modifies}
use Rattle.merge.specs.declared.turn.Turn.{Turn}
use Rattle.merge.specs.declared.weave.Woven.{Woven}

-- the n words of s before word e, from the last on
unfoldable pub words_back : List ℕ → ℕ → ℕ → List ℕ
words_back s e zero = []
words_back s e (suc n) = word_at s (e - 1) ∷ words_back s (e - 1) n

-- ---- the deletes are marked
-- from word `start` on stand m words of records of the update b
pub record Standing (b work : List ℕ) (start m : ℕ) : Type 0 where
  pub room : 8 * (start + m) ≤ length work
  pub stand : AllStand b (words_in work start m)

-- in `next` these words are marked where their records delete, and all before and behind them are as they were
pub record Marks (b work : List ℕ) (start m : ℕ) (next : List ℕ) : Type 0 where
  pub words : words_in next start m ≡ with_ruins b (words_in work start m)
  pub front : take (8 * start) next ≡ take (8 * start) work
  pub back : drop (8 * (start + m)) next ≡ drop (8 * (start + m)) work
  pub size : length next ≡ length work

-- ---- one turn
-- cs and us being left: x words of cs and y of us are used up, and `keep` words (`word`) of the result and `change` (`by`) of its modifies
-- come of them
pub record Turned (cs us : List ℕ) (t : Turn) : Type 0 where
  pub words : result_words cs us ≡ take t.keep (t.word ∷ []) ++ result_words (drop t.x cs) (drop t.y us)
  pub edits : modifies cs us ≡ take t.change (t.by ∷ []) ++ modifies (drop t.x cs) (drop t.y us)
  pub some : 1 ≤ t.x + t.y
  pub fair : t.keep + t.change ≤ t.x + t.y
  pub left : t.x ≤ length cs
  pub right : t.y ≤ length us
  pub x_one : t.x ≤ 1
  pub y_one : t.y ≤ 1
  pub one : t.keep ≤ 1
  pub once : t.change ≤ t.keep

-- the four turns: the word c of the cell is kept, w of the update comes in, c goes, or c is modified by u
abbrev pub kept_turn : ℕ → Turn
kept_turn c = record { x = 1; y = 0; keep = 1; word = c; change = 0; by = 0 }

abbrev pub inserted_turn : ℕ → Turn
inserted_turn w = record { x = 0; y = 1; keep = 1; word = w; change = 0; by = 0 }

abbrev pub deleted_turn : ℕ → Turn
deleted_turn c = record { x = 1; y = 1; keep = 0; word = c; change = 0; by = 0 }

abbrev pub modified_turn : ℕ → ℕ → Turn
modified_turn c u = record { x = 1; y = 1; keep = 1; word = c; change = 1; by = u }

-- what it gives, written: the word of a modify below those at the end of the first half, that of the result behind those in front
pub record SetDown (work : List ℕ) (h count edits : ℕ) (t : Turn) (next : List ℕ) : Type 0 where
  pub is : next ≡ put_at (put_at work (h - 1 - edits) t.by) count t.word
  pub low : t.by < 2 ^ 64
  pub small : t.word < 2 ^ 64

-- ---- all turns
-- both lists of words in the second half rise
pub record Halves (work : List ℕ) (n m : ℕ) : Type 0 where
  pub room : 16 * (n + m) ≤ length work
  pub cell : Strict (words_in work (n + m) n)
  pub update : Strict (words_in work (n + m + n) m)

-- behind them the first half has the words of the result in front and those of its modifies, from the last to the first, at its end; the
-- second half is as it was
pub record Weaves (work : List ℕ) (n m : ℕ) (next : List ℕ) (r : Woven) : Type 0 where
  pub words : words_in next 0 r.count ≡ result_words (words_in work (n + m) n) (words_in work (n + m + n) m)
  pub edits : words_back next (n + m) r.edits ≡ modifies (words_in work (n + m) n) (words_in work (n + m + n) m)
  pub few : r.count + r.edits ≤ n + m
  pub back : drop (8 * (n + m)) next ≡ drop (8 * (n + m)) work
  pub size : length next ≡ length work

-- in `next` the modifies stand at the end of the area, so that there is room for notes behind the words; the first half is as it was
pub record Settled (work : List ℕ) (h edits : ℕ) (next : List ℕ) : Type 0 where
  pub changes : words_back next (2 * h) edits ≡ words_back work h edits
  pub front : take (8 * h) next ≡ take (8 * h) work
  pub size : length next ≡ length work
