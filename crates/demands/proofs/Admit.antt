-- Demand 2 of Admit. `admitted_exactly`: it accepts a cell exactly when the cell is readable, its chart keeps the rules of topology and the limits, and the areas
-- suffice. `admit_writes`: it then writes the chart's held form, and Number says how long that is. `admit_again`: Admit on what it wrote writes the same. Assumes
-- nothing.
use Prim.Native.Nat.{ℕ, ◌*◌, ◌≤◌}
use mathlib.Core.Bool.{true, false}
use mathlib.Core.List.{List, ◌++◌}
use mathlib.Core.Logic.{⊎_elim}
use mathlib.Core.Path.{◌≡◌, ap, ◌∙◌}
use native.Mathlib.Omega.{arith}
use lib.ListN.{length, drop}
use lib.Dec.{ltb}
use borrow.Author.Tests.{le-ltb, ne_eqb, ltb-false}
use Rattle.octets.proofs.Cases.{true_or_false}
use Rattle.answers.specs.Answer.{answer, filed}
use Rattle.answers.specs.First.{first_answer}
use Rattle.answers.proofs.FirstLaws.{first_on, first_told}
use Rattle.answers.proofs.AnswerLaws.{filed_told, filed_tested}
use Rattle.readboth.proofs.CallLaws.{opening_told, work_on, work_told}
use Rattle.reader.specs.Reader.{front_of, count_in, work_answer}
use Rattle.answers.specs.declared.answer.Answer.{Answer}
use Rattle.std.specs.Prelude.{Ok}
use Rattle.held.specs.Chart.{Chart, chart_of}
use Rattle.held.specs.Held.{held_of}
use Rattle.held.specs.Limits.{fits, record_count}
use Rattle.held.proofs.LimitsLaws.{fits_told, fits_tested}
use Rattle.judging.specs.Judge.{cell_verdict}
use Rattle.loader.specs.Admit.{held_answer, written, area_by, admit_of, cell_chart, admit_area}
use Rattle.loader.proofs.AdmitLaws.{admit_opened}
use Rattle.demands.specs.Cell.{Bytes}
use Rattle.demands.specs.Accepted.{Admissible}
use Rattle.demands.specs.Verdict.{Good}
use Rattle.demands.proofs.FileLaws.{cell_good}
use Rattle.demands.proofs.Judge.{verdict_sound, sound_verdict}
use Rattle.demands.proofs.ReadsBack.{held_admitted, held_again}

-- ---- out of an answer 0
pub held_told : (o : ℕ) (c : Chart) → (held_answer o c).code ≡ 0 → (fits c ≡ true) × (length (held_of c) ≤ o) × (held_answer o c ≡ answer 0 0 0 (length (held_of c)) 0)
unfolding held_answer
held_told o c h =
    ⊎_elim (λ (f : fits c ≡ true).
    ⊎_elim (λ (r : ltb o (length (held_of c)) ≡ true). absurd (let z : ◌≡◌ {A = ℕ} 21 0 = rw (f, r) at h in omega arith))
    (λ (r : ltb o (length (held_of c)) ≡ false). (f, ltb-false o (length (held_of c)) r, rw (f, r))) (true_or_false (ltb o (length (held_of c)))))
    (λ (f : fits c ≡ false). absurd (let z : ◌≡◌ {A = ℕ} 20 0 = rw f at h in omega arith)) (true_or_false (fits c))

-- what is known of a cell that is accepted
record Accepted (s : List ℕ) (w o : ℕ) : Type 0 where
  opened : front_of 1 s ≡ Ok (count_in s)
  verdict : (cell_verdict s (count_in s)).code ≡ 0
  fit : fits (cell_chart s) ≡ true
  room : 16 * count_in s ≤ w
  long : length (held_of (cell_chart s)) ≤ o
  is : admit_of s w o ≡ answer 0 0 0 (length (held_of (cell_chart s))) 0

accepted : (s : List ℕ) (w o : ℕ) → (admit_of s w o).code ≡ 0 → Accepted s w o
unfolding admit_of
accepted s w o h =
    let n = count_in s in
    let p = opening_told 1 s (λ (k : ℕ). first_answer (work_answer w k) (first_answer (filed 1 (cell_verdict s k)) (held_answer o (chart_of s k)))) h in
    let a = work_told w n (first_answer (filed 1 (cell_verdict s n)) (held_answer o (chart_of s n))) p.2 in
    let b = first_told (λ (x : Answer). x.code) (filed 1 (cell_verdict s n)) (held_answer o (chart_of s n)) a.2 in
    let t = held_told o (chart_of s n) b.2 in
    record {
      opened = p.0;
      verdict = filed_told 1 (cell_verdict s n) b.0;
      fit = t.0;
      room = a.0;
      long = t.1;
      is = p.1 ∙ a.1 ∙ b.1 ∙ t.2;
    }

-- ---- into an answer 0
held_done : (o : ℕ) (c : Chart) → fits c ≡ true → length (held_of c) ≤ o → held_answer o c ≡ answer 0 0 0 (length (held_of c)) 0
unfolding held_answer
held_done o c fit long = rw (fit, le-ltb o (length (held_of c)) long)

admit_done : (s : List ℕ) (w o n : ℕ) → front_of 1 s ≡ Ok n → 16 * n ≤ w → (cell_verdict s n).code ≡ 0 → fits (chart_of s n) ≡ true → length (held_of (chart_of s n)) ≤ o
    → admit_of s w o ≡ answer 0 0 0 (length (held_of (chart_of s n))) 0
admit_done s w o n front room verdict fit long =
    admit_opened s n front w o ∙ work_on w n (first_answer (filed 1 (cell_verdict s n)) (held_answer o (chart_of s n))) room
    ∙ first_on (λ (x : Answer). x.code) (filed 1 (cell_verdict s n)) (held_answer o (chart_of s n)) (filed_tested 1 (cell_verdict s n) verdict)
    ∙ held_done o (chart_of s n) fit long

area_done : (s : List ℕ) (w : ℕ) (out : List ℕ) → admit_of s w (length out) ≡ answer 0 0 0 (length (held_of (cell_chart s))) 0
    → admit_area s w out ≡ held_of (cell_chart s) ++ drop (length (held_of (cell_chart s))) out
unfolding admit_area area_by written
area_done s w out is = rw is

-- ---- `admitted_exactly`
admitted_only : (s : List ℕ) (w o : ℕ) → Bytes s → (admit_of s w o).code ≡ 0 → Admissible s w o
admitted_only s w o bytes h =
    let a = accepted s w o h in
    let p = verdict_sound s (count_in s) bytes a.opened a.verdict in
    record {
      readable = record { opened = a.opened; fine = p.0 };
      sound = p.1;
      limits = fits_told (cell_chart s) a.fit;
      areas = record { work = a.room; output = a.long };
    }

admitted_all : (s : List ℕ) (w o : ℕ) → Bytes s → Admissible s w o → (admit_of s w o).code ≡ 0
admitted_all s w o bytes a =
    let n = count_in s in
    let r = a.readable in
    let verdict = sound_verdict s n bytes r.opened r.fine a.sound in
    ap (λ (x : Answer). x.code)
    (admit_done s w o n r.opened a.areas.work verdict (fits_tested (cell_chart s) a.limits) a.areas.output)

-- demand 2, of Admit: a cell is accepted exactly when its rules hold and the areas suffice
pub admitted_exactly : (s : List ℕ) (w o : ℕ) → Bytes s → ((admit_of s w o).code ≡ 0 → Admissible s w o) × (Admissible s w o → (admit_of s w o).code ≡ 0)
admitted_exactly s w o bytes = (admitted_only s w o bytes, admitted_all s w o bytes)

-- ---- `admit_writes`
pub record Writes (s : List ℕ) (w : ℕ) (out : List ℕ) : Type 0 where
  pub answered : admit_of s w (length out) ≡ answer 0 0 0 (length (held_of (cell_chart s))) 0
  pub fits_in : length (held_of (cell_chart s)) ≤ length out
  pub area : admit_area s w out ≡ held_of (cell_chart s) ++ drop (length (held_of (cell_chart s))) out

pub admit_writes : (s : List ℕ) (w : ℕ) (out : List ℕ) → (admit_of s w (length out)).code ≡ 0 → Writes s w out
admit_writes s w out h =
    let a = accepted s w (length out) h in
    record { answered = a.is; fits_in = a.long; area = area_done s w out a.is }

-- ---- a refusal leaves the output as it was
pub admit_refuses : (s : List ℕ) (w : ℕ) (out : List ℕ) → ((admit_of s w (length out)).code ≡ 0 → ⊥) → admit_area s w out ≡ out
unfolding admit_area area_by
admit_refuses s w out ne = rw (ne_eqb (admit_of s w (length out)).code 0 ne)

-- ---- Admit on what Admit wrote writes the same
pub admitted_good : (s : List ℕ) (w o : ℕ) → Bytes s → (admit_of s w o).code ≡ 0 → Good (cell_chart s)
admitted_good s w o bytes h =
    let m = admitted_only s w o bytes h in
    record { values = cell_good s bytes m.readable; sound = m.sound; limits = m.limits }

pub admit_again : (s : List ℕ) (w o : ℕ) → Bytes s → (admit_of s w o).code ≡ 0 → (v : ℕ) (out : List ℕ) → 16 * record_count (cell_chart s) ≤ v
    → length (held_of (cell_chart s)) ≤ length out
    → (admit_of (held_of (cell_chart s)) v (length out) ≡ answer 0 0 0 (length (held_of (cell_chart s))) 0)
    × (admit_area (held_of (cell_chart s)) v out ≡ held_of (cell_chart s) ++ drop (length (held_of (cell_chart s))) out)
admit_again s w o bytes h v out room long =
    let good = admitted_good s w o bytes h in
    (held_admitted (cell_chart s) good v out room long, held_again (cell_chart s) good v out room long)
