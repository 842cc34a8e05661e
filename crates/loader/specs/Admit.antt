-- Admit: the answer and the output area, for every cell and every area. Assumes nothing.
use Rattle.std.specs.Prelude.{ℕ, cond, List, ◌++◌, length, drop, eqb, ltb}
use Rattle.answers.specs.Codes.{SIZE, ROOM}
use Rattle.answers.specs.Answer.{answer, filed}
use Rattle.answers.specs.First.{first_answer}
use Rattle.answers.specs.declared.answer.Answer.{Answer}
use Rattle.reader.specs.Reader.{opening, count_in, work_answer}
use Rattle.held.specs.Chart.{Chart, chart_of}
use Rattle.held.specs.Held.{held_of}
use Rattle.held.specs.Limits.{fits}
use Rattle.judging.specs.Judge.{cell_verdict}

-- ---- a chart to be written into an area of o bytes
-- "20 Size: held form over a limit: 3, 0", then "21 Room: output shorter than the held form: 0, 0"; "Number: bytes written for 0 .., bytes needed for .. 21"
unfoldable pub held_answer : ℕ → Chart → Answer
held_answer o c =
    cond (fits c) (cond (ltb o (length (held_of c))) (answer ROOM 0 0 (length (held_of c)) 0) (answer 0 0 0 (length (held_of c)) 0)) (answer SIZE 3 0 0 0)

-- "bytes of the output beyond the held form stay"
unfoldable pub written : Chart → List ℕ → List ℕ
written c out = held_of c ++ drop (length (held_of c)) out

-- the output area behind a call's answer: the held form of its chart where the answer is 0; after a refusal it is as it was
unfoldable pub area_by : Answer → Chart → List ℕ → List ℕ
area_by a c out = cond (eqb a.code 0) (written c out) out

-- ---- Admit, with w bytes of work and o of output: "cell 1, 2; .. 3; cell 4, .. 8; .. 17 to 19 ..; 20; 21"
unfoldable pub admit_of : List ℕ → ℕ → ℕ → Answer
admit_of cell w o =
    opening 1 cell (λ (n : ℕ). first_answer (work_answer w n) (first_answer (filed 1 (cell_verdict cell n)) (held_answer o (chart_of cell n))))

-- what a cell means, as far as it can be read
abbrev pub cell_chart : List ℕ → Chart
cell_chart s = chart_of s (count_in s)

unfoldable pub admit_area : List ℕ → ℕ → List ℕ → List ℕ
admit_area cell w out = area_by (admit_of cell w (length out)) (cell_chart cell) out
