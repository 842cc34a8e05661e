-- Apply: the answer and the output area, for every cell, every update and every area. Assumes nothing.
use Rattle.std.specs.Prelude.{ℕ, ◌+◌, List, length}
use Rattle.answers.specs.Answer.{filed}
use Rattle.answers.specs.First.{first_answer}
use Rattle.answers.specs.declared.answer.Answer.{Answer}
use Rattle.reader.specs.Reader.{opening, front_of, records_in, work_answer, cell_fault, update_fault}
use Rattle.held.specs.Chart.{Chart, chart_of}
use Rattle.changes.specs.Change.{Change, change_of}
use Rattle.changes.specs.Amend.{change_fault, placed_in}
use Rattle.changes.specs.Updated.{updated}
use Rattle.verdict.specs.Verdict.{chart_topology}
use Rattle.loader.specs.Admit.{held_answer, area_by, cell_chart}

-- what a readable update of m records makes of a readable cell of n
abbrev pub result_of : List ℕ → ℕ → List ℕ → ℕ → Chart
result_of cell n update m = updated (chart_of cell n) (change_of update m)

-- ---- Apply, with w bytes of work and o of output: "cell 1, 2; update 1, 2; 3; cell 4, then 5 before 6 record by record, 7, 8; update 4, 5/6, 7; 9 to 12;
-- 13 to 16 record by record in the update's order; 17 to 19 record by record in held order; 20; 21": 9 to 16 have file 2, 17 to 19 file 3
unfoldable pub apply_of : List ℕ → List ℕ → ℕ → ℕ → Answer
apply_of cell update w o =
    opening 1 cell (λ (n : ℕ).
    opening 2 update (λ (m : ℕ).
    first_answer (work_answer w (n + m))
    (first_answer (filed 1 (cell_fault cell n))
    (first_answer (filed 2 (update_fault update m))
    (first_answer (filed 2 (placed_in update (change_fault (chart_of cell n) (change_of update m))))
    (first_answer (filed 3 (chart_topology (result_of cell n update m)))
    (held_answer o (result_of cell n update m))))))))

-- ---- the output area: the held form of what the update makes of the cell
-- how many records an update has, 0 where it is too long or its framing is broken
abbrev pub changes_in : List ℕ → ℕ
changes_in file = records_in (front_of 2 file)

-- what an update means, as far as it can be read
abbrev pub file_change : List ℕ → Change
file_change file = change_of file (changes_in file)

-- what it makes of a chart
abbrev pub updated_by : Chart → List ℕ → Chart
updated_by c file = updated c (file_change file)

unfoldable pub apply_area : List ℕ → List ℕ → ℕ → List ℕ → List ℕ
apply_area cell update w out = area_by (apply_of cell update w (length out)) (updated_by (cell_chart cell) update) out
