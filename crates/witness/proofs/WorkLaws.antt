-- A cell that Judge accepts with some work area it accepts with every longer one. Assumes nothing.
use Prim.Native.Nat.{ℕ, ◌≤◌}
use mathlib.Core.List.{List}
use mathlib.Core.Path.{◌≡◌, sym, ap, ◌∙◌}
use native.Mathlib.Omega.{arith}
use Rattle.answers.specs.Answer.{answer, filed}
use Rattle.answers.specs.First.{first_answer}
use Rattle.answers.specs.declared.answer.Answer.{Answer}
use Rattle.reader.specs.Reader.{count_in, work_answer}
use Rattle.readboth.proofs.CallLaws.{opening_told, work_on, work_told}
use Rattle.judging.specs.Judge.{cell_verdict, judge_of}
use Rattle.judging.proofs.JudgeLaws.{judge_opened}

pub judge_more : (cell : List ℕ) (v w : ℕ) → v ≤ w → judge_of cell v ≡ answer 0 0 0 0 0 → judge_of cell w ≡ answer 0 0 0 0 0
unfolding judge_of
judge_more cell v w more h =
    let n = count_in cell in
    let last = filed 1 (cell_verdict cell n) in
    let o = opening_told 1 cell (λ (k : ℕ). first_answer (work_answer v k) (filed 1 (cell_verdict cell k))) (ap (λ (a : Answer). a.code) h) in
    let t = work_told v n last o.2 in
    let room = t.0 in
    judge_opened cell n o.0 w ∙ work_on w n last (omega arith) ∙ sym (o.1 ∙ t.1) ∙ h
