-- The promise of reading has one answer and one final work area: no second of either satisfies it. Assumes nothing.
use Prim.Native.Nat.{ℕ}
use mathlib.Core.List.{List}
use mathlib.Core.Path.{◌≡◌, sym, ◌∙◌}
use lib.ListN.{length, replicate}
use Rattle.reader.specs.Calls.{read_cell, read_both}
use Rattle.answers.specs.declared.answer.Answer.{Answer}

-- what `read_cell` promises of its answer and of the work area, which was w before and is `after` now
pub record CellRead (cell w after : List ℕ) (r : Answer) : Type 0 where
  pub is : r ≡ read_cell cell (length w)
  pub zero : after ≡ replicate (length w) 0

pub read_cell_only : {cell w a b : List ℕ} {r q : Answer} → CellRead cell w a r → CellRead cell w b q → (r ≡ q) × (a ≡ b)
read_cell_only f g = (f.is ∙ sym g.is, f.zero ∙ sym g.zero)

-- the same of `read_both`
pub record BothRead (cell update w after : List ℕ) (r : Answer) : Type 0 where
  pub is : r ≡ read_both cell update (length w)
  pub zero : after ≡ replicate (length w) 0

pub read_both_only : {cell update w a b : List ℕ} {r q : Answer} → BothRead cell update w a r → BothRead cell update w b q → (r ≡ q) × (a ≡ b)
read_both_only f g = (f.is ∙ sym g.is, f.zero ∙ sym g.zero)
