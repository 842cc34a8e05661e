-- The two calls of reading alone, which only tests make; nothing that the loader promises stands on them. Assumes nothing.
use Rattle.std.specs.Prelude.{ℕ, List}
use Rattle.answers.specs.declared.answer.Answer.{Answer}
use Rattle.reader.specs.Reader.{opening, cell_checked, both_checked}

-- "cell 1, 2; .. 3; cell 4, then 5 before 6 record by record, 7, 8"
unfoldable pub read_cell : List ℕ → ℕ → Answer
read_cell cell w = opening 1 cell (λ (n : ℕ). cell_checked cell w n)

-- "cell 1, 2; update 1, 2; 3; cell 4, then 5 before 6 record by record, 7, 8; update 4, 5/6, 7"
unfoldable pub read_both : List ℕ → List ℕ → ℕ → Answer
read_both cell update w = opening 1 cell (λ (n : ℕ). opening 2 update (λ (m : ℕ). both_checked cell update w n m))
