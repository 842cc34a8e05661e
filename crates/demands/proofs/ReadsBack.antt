-- "A written re-issue reads back to the same records": `held_back`. What is written for a good chart is readable and means that chart, Judge gives it 0, and
-- Admit writes the same bytes for it. Assumes nothing.
use Prim.Native.Nat.{ℕ, ◌*◌, ◌≤◌}
use mathlib.Core.List.{List, ◌++◌}
use mathlib.Core.Path.{◌≡◌, refl, sym, ap, ◌∙◌}
use lib.ListN.{length, drop}
use borrow.Author.Tests.{le-ltb}
use Rattle.answers.specs.Answer.{fine, answer, filed}
use Rattle.answers.specs.First.{first_by, first_answer}
use Rattle.answers.specs.declared.refusal.Refusal.{Refusal}
use Rattle.answers.specs.declared.answer.Answer.{Answer}
use Rattle.answers.proofs.FirstLaws.{first_on, first_tested}
use Rattle.answers.proofs.AnswerLaws.{filed_none, filed_tested}
use Rattle.readboth.proofs.CallLaws.{work_on}
use Rattle.topology.specs.Topology.{topology_fault}
use Rattle.judging.proofs.JudgeLaws.{judge_opened}
use Rattle.loader.proofs.AdmitLaws.{admit_opened}
use Rattle.reader.specs.Reader.{framed_front, front_of, records_in, count_in, twice_refusal, counts_refusal, cell_fault}
use Rattle.std.specs.Prelude.{Ok}
use Rattle.held.specs.Chart.{Chart, chart_of}
use Rattle.held.specs.Held.{held_of}
use Rattle.held.specs.Limits.{record_count}
use Rattle.held.proofs.LimitsLaws.{fits_tested}
use Rattle.held.proofs.ReadsBack.{HeldRead, reads_back}
use Rattle.judging.specs.Judge.{cell_verdict, judge_of}
use Rattle.loader.specs.Admit.{held_answer, written, area_by, admit_of, cell_chart, admit_area}
use Rattle.demands.specs.Verdict.{Good}
use Rattle.demands.specs.Cell.{Readable}
use Rattle.demands.proofs.TopologyLaws.{held_topology}
use Rattle.demands.proofs.SoundLaws.{sound_tested}

module _ (c : Chart) (good : Good c) where
  there : HeldRead c
  there = reads_back c good.values good.limits

  held_opened : front_of 1 (held_of c) ≡ Ok (record_count c)
  unfolding front_of framed_front
  held_opened = rw (le-ltb 5242880 (length (held_of c)) good.limits.short, there.framed)

  pub held_count : count_in (held_of c) ≡ record_count c
  unfolding records_in
  held_count = ap records_in held_opened

  held_fine : (cell_fault (held_of c) (record_count c)).code ≡ 0
  unfolding cell_fault twice_refusal counts_refusal first_by
  held_fine = rw (there.read, there.once, there.counted)

  held_verdict : (cell_verdict (held_of c) (record_count c)).code ≡ 0
  unfolding cell_verdict
  held_verdict =
      first_tested (λ (r : Refusal). r.code) (cell_fault (held_of c) (record_count c)) (topology_fault (held_of c) (record_count c)) held_fine
      (held_topology c good.values good.limits ∙ sound_tested c good.sound)

  -- ---- it is readable, and means the chart
  pub held_readable : Readable (held_of c)
  held_readable = record { opened = rw held_count held_opened; fine = rw held_count held_fine }

  pub held_back : cell_chart (held_of c) ≡ c
  held_back = ap (chart_of (held_of c)) held_count ∙ there.back

  -- ---- Judge gives it 0
  pub held_judged : (w : ℕ) → 16 * record_count c ≤ w → judge_of (held_of c) w ≡ answer 0 0 0 0 0
  held_judged w room =
      let verdict = cell_verdict (held_of c) (record_count c) in
      judge_opened (held_of c) (record_count c) held_opened w ∙ work_on w (record_count c) (filed 1 verdict) room ∙ sym (filed_none 1 verdict (answer 0 0 0 0 0) held_verdict refl)

  -- ---- Admit writes the same bytes
  module _ (w : ℕ) (out : List ℕ) (room : 16 * record_count c ≤ w) (long : length (held_of c) ≤ length out) where
    held_answered : held_answer (length out) (chart_of (held_of c) (record_count c)) ≡ answer 0 0 0 (length (held_of c)) 0
    unfolding held_answer
    held_answered = rw (there.back, fits_tested c good.limits, le-ltb (length out) (length (held_of c)) long)

    pub held_admitted : admit_of (held_of c) w (length out) ≡ answer 0 0 0 (length (held_of c)) 0
    held_admitted =
        let verdict = cell_verdict (held_of c) (record_count c) in
        let last = held_answer (length out) (chart_of (held_of c) (record_count c)) in
        admit_opened (held_of c) (record_count c) held_opened w (length out)
        ∙ work_on w (record_count c) (first_answer (filed 1 verdict) last) room
        ∙ first_on (λ (x : Answer). x.code) (filed 1 verdict) last (filed_tested 1 verdict held_verdict)
        ∙ held_answered

    pub held_again : admit_area (held_of c) w out ≡ held_of c ++ drop (length (held_of c)) out
    unfolding admit_area area_by written
    held_again = rw (held_admitted, held_back)
