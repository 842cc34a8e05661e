-- Demand 2 of Judge. `judged_exactly`: it accepts a cell exactly when the cell is readable, its chart keeps the rules of topology and the work area suffices. Assumes
-- nothing.
use Prim.Native.Nat.{ℕ}
use mathlib.Core.List.{List}
use mathlib.Core.Path.{◌≡◌, sym, ap, ◌∙◌}
use Rattle.answers.specs.Answer.{filed}
use Rattle.reader.specs.Reader.{front_of, cell_fault, work_answer, count_in}
use Rattle.answers.specs.First.{first_answer}
use Rattle.answers.specs.declared.refusal.Refusal.{Refusal}
use Rattle.answers.specs.declared.answer.Answer.{Answer}
use Rattle.answers.proofs.FirstLaws.{first_told, first_tested}
use Rattle.answers.proofs.AnswerLaws.{filed_told, filed_tested}
use Rattle.std.specs.Prelude.{Ok}
use Rattle.topology.specs.Topology.{topology_fault}
use Rattle.held.specs.Chart.{chart_of}
use Rattle.judging.specs.Judge.{cell_verdict, judge_of}
use Rattle.reader.proofs.ReaderLaws.{cell_parts}
use Rattle.verdict.specs.Verdict.{chart_topology}
use Rattle.demands.specs.Cell.{Bytes}
use Rattle.demands.specs.Sound.{Sound}
use Rattle.demands.specs.Accepted.{Judgeable}
use Rattle.readboth.proofs.CallLaws.{front_opened, opening_told, work_on, work_told}
use Rattle.judging.proofs.JudgeLaws.{judge_opened}
use Rattle.demands.proofs.TopologyLaws.{cell_topology}
use Rattle.demands.proofs.SoundLaws.{sound_told, sound_tested}

-- of a file that opens and has no code of 4 to 8, the topology is that of its chart
same_topology : (s : List ℕ) (n : ℕ) → Bytes s → front_of 1 s ≡ Ok n → (cell_fault s n).code ≡ 0 → (topology_fault s n).code ≡ (chart_topology (chart_of s n)).code
same_topology s n bytes opened fine =
    let f = front_opened 1 s n opened in
    let t = cell_parts s n fine in
    cell_topology s n f.framed f.short bytes.small t.0 t.1

pub verdict_sound : (s : List ℕ) (n : ℕ) → Bytes s → front_of 1 s ≡ Ok n → (cell_verdict s n).code ≡ 0 → ((cell_fault s n).code ≡ 0) × Sound (chart_of s n)
unfolding cell_verdict
verdict_sound s n bytes opened h =
    let p = first_told (λ (r : Refusal). r.code) (cell_fault s n) (topology_fault s n) h in
    (p.0, sound_told (chart_of s n) (sym (same_topology s n bytes opened p.0) ∙ p.2))

pub sound_verdict : (s : List ℕ) (n : ℕ) → Bytes s → front_of 1 s ≡ Ok n → (cell_fault s n).code ≡ 0 → Sound (chart_of s n) → (cell_verdict s n).code ≡ 0
unfolding cell_verdict
sound_verdict s n bytes opened fine so =
    first_tested (λ (r : Refusal). r.code) (cell_fault s n) (topology_fault s n) fine (same_topology s n bytes opened fine ∙ sound_tested (chart_of s n) so)

-- ---- `judged_exactly`
judged_only : (s : List ℕ) (w : ℕ) → Bytes s → (judge_of s w).code ≡ 0 → Judgeable s w
unfolding judge_of
judged_only s w bytes h =
    let n = count_in s in
    let o = opening_told 1 s (λ (k : ℕ). first_answer (work_answer w k) (filed 1 (cell_verdict s k))) h in
    let t = work_told w n (filed 1 (cell_verdict s n)) o.2 in
    let q = verdict_sound s n bytes o.0 (filed_told 1 (cell_verdict s n) t.2) in
    record { readable = record { opened = o.0; fine = q.0 }; sound = q.1; work = t.0 }

judged_all : (s : List ℕ) (w : ℕ) → Bytes s → Judgeable s w → (judge_of s w).code ≡ 0
judged_all s w bytes j =
    let n = count_in s in
    let r = j.readable in
    ap (λ (x : Answer). x.code) (judge_opened s n r.opened w ∙ work_on w n (filed 1 (cell_verdict s n)) j.work)
    ∙ filed_tested 1 (cell_verdict s n) (sound_verdict s n bytes r.opened r.fine j.sound)

-- demand 2, of Judge: a cell is accepted exactly when its rules hold and the work area suffices
pub judged_exactly : (s : List ℕ) (w : ℕ) → Bytes s → ((judge_of s w).code ≡ 0 → Judgeable s w) × (Judgeable s w → (judge_of s w).code ≡ 0)
judged_exactly s w bytes = (judged_only s w bytes, judged_all s w bytes)
