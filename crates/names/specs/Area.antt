-- Words at the front of a lent area. It serves the proofs, and nothing here need be believed. Assumes nothing.
use Rattle.std.specs.Prelude.{ℕ, ◌*◌, List, ◌≡◌, length, drop}
use Rattle.words.specs.Words.{words_in}

-- in `next` the first m words are these, and all bytes behind them are as in `area`
pub record Collected (area these : List ℕ) (m : ℕ) (next : List ℕ) : Type 0 where
  pub words : words_in next 0 m ≡ these
  pub back : drop (8 * m) next ≡ drop (8 * m) area
  pub size : length next ≡ length area
