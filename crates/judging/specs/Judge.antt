-- Judge: a cell's verdict, for every cell and every work area. Assumes nothing.
use Rattle.std.specs.Prelude.{ℕ, List}
use Rattle.answers.specs.Answer.{filed}
use Rattle.answers.specs.First.{first_refusal, first_answer}
use Rattle.answers.specs.declared.refusal.Refusal.{Refusal}
use Rattle.answers.specs.declared.answer.Answer.{Answer}
use Rattle.reader.specs.Reader.{opening, work_answer, cell_fault}
use Rattle.topology.specs.Topology.{topology_fault}

-- "cell 4, then 5 before 6 record by record, 7, 8; .. 17 to 19 record by record in held order"
unfoldable pub cell_verdict : List ℕ → ℕ → Refusal
cell_verdict s n = first_refusal (cell_fault s n) (topology_fault s n)

-- "cell 1, 2; .. 3; cell 4, .. 8; .. 17 to 19 ..", with w bytes of work; "Judge stops before 20"; "17 to 19: file 1 (Judge, Admit)"
unfoldable pub judge_of : List ℕ → ℕ → Answer
judge_of cell w = opening 1 cell (λ (n : ℕ). first_answer (work_answer w n) (filed 1 (cell_verdict cell n)))
