-- The work area before and behind the weaving, as the crates above take it. It serves the proofs, and nothing here need be believed. Assumes nothing.
use Rattle.std.specs.Prelude.{ℕ, ◌+◌, ◌*◌, ◌≤◌, List, ◌≡◌, length}
use Rattle.words.specs.Words.{words_in}
use Rattle.words.specs.Order.{Sorted}
use Rattle.names.specs.Premises.{Strict, AllStand}
use Rattle.merge.specs.Words.{with_ruins, result_words, modifies}
use Rattle.merge.specs.Area.{words_back}
use Rattle.merge.specs.Places.{joined, single, double, places_of, Woof}
use Rattle.merge.specs.declared.weave.Woven.{Woven}

-- before: of 2 * h words, h = n + m, the second half has the n words of a cell and then the m of the update b, each in held order without a
-- name twice; those of the update stand for its records
pub record Warp (b work : List ℕ) (n m : ℕ) : Type 0 where
  pub room : 16 * (n + m) ≤ length work
  pub cell : Strict (words_in work (n + m) n)
  pub update : Strict (words_in work (n + m + n) m)
  pub stand : AllStand b (words_in work (n + m + n) m)

-- behind: the result has `count` words, which stand in front in held order, and `edits` modifies, which stand at the end; as many notes as
-- words fit between them
pub record Wove (b work : List ℕ) (n m : ℕ) (next : List ℕ) (r : Woven) : Type 0 where
  pub words : words_in next 0 r.count ≡ result_words (words_in work (n + m) n) (with_ruins b (words_in work (n + m + n) m))
  pub edits : words_back next (2 * (n + m)) r.edits ≡ modifies (words_in work (n + m) n) (with_ruins b (words_in work (n + m + n) m))
  pub places : places_of next (2 * (n + m)) r.count r.edits
      ≡ joined single double (result_words (words_in work (n + m) n) (with_ruins b (words_in work (n + m + n) m)))
      (modifies (words_in work (n + m) n) (with_ruins b (words_in work (n + m + n) m)))
  pub order : Sorted (words_in next 0 r.count)
  pub strict : Strict (words_in next 0 r.count)
  pub woof : Woof next (2 * (n + m)) r.count r.edits
  pub notes : 2 * r.count + r.edits ≤ 2 * (n + m)
  pub size : length next ≡ length work
