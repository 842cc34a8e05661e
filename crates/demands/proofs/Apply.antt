-- Demand 2 of Apply. `accepted_exactly`: on a readable cell a file is accepted exactly when it may be worked into the cell's chart and the areas suffice.
-- `apply_writes`: what is then written is the held form of the updated chart, and Number says how long that is. `apply_refuses`: after a refusal the output is as it
-- was. `apply_again`: the same file on what was written is refused with 11; `never_again`: whatever areas are lent, it isn't accepted. Assumes nothing.
use Prim.Native.Nat.{ℕ, ◌+◌, ◌*◌, ◌≤◌}
use mathlib.Core.Bool.{true, false}
use mathlib.Core.List.{List, ◌++◌}
use mathlib.Core.Logic.{⊎_elim}
use mathlib.Core.Path.{◌≡◌, ap, ◌∙◌}
use native.Mathlib.Omega.{arith}
use lib.ListN.{length, drop}
use lib.Dec.{eqb}
use borrow.Author.Tests.{le-ltb, eq-eqb, ne_eqb, eqb-true}
use Rattle.octets.proofs.Cases.{true_or_false}
use Rattle.iso8211.specs.File.{record_at}
use Rattle.answers.specs.Answer.{refusal, answer, filed}
use Rattle.answers.specs.declared.refusal.Refusal.{Refusal}
use Rattle.answers.specs.First.{first_by, first_answer}
use Rattle.answers.proofs.FirstLaws.{first_on, first_told}
use Rattle.answers.proofs.AnswerLaws.{filed_told, filed_tested}
use Rattle.readboth.proofs.CallLaws.{opening_told, work_on, work_told}
use Rattle.reader.specs.Reader.{front_of, fronted, opening, count_in, work_answer, cell_fault, update_fault}
use Rattle.answers.specs.declared.answer.Answer.{Answer}
use Rattle.std.specs.Prelude.{Ok}
use Rattle.held.specs.Chart.{Chart, chart_of}
use Rattle.held.specs.Held.{held_of}
use Rattle.held.specs.Limits.{fits, record_count}
use Rattle.held.proofs.LimitsLaws.{fits_told, fits_tested}
use Rattle.changes.specs.Change.{Change, change_of}
use Rattle.changes.specs.Follow.{follow_code}
use Rattle.changes.specs.Amend.{change_fault, placed_in}
use Rattle.changes.proofs.RulesLaws.{acceptable_told, acceptable_tested}
use Rattle.verdict.specs.Verdict.{chart_topology}
use Rattle.loader.specs.Admit.{held_answer, written, area_by, cell_chart}
use Rattle.loader.specs.Apply.{result_of, apply_of, changes_in, file_change, updated_by, apply_area}
use Rattle.demands.specs.Verdict.{Good}
use Rattle.demands.specs.Cell.{Bytes, Readable}
use Rattle.demands.specs.Update.{ReadableUpdate, Allowed, Areas}
use Rattle.demands.proofs.FileLaws.{cell_good, change_good}
use Rattle.demands.proofs.SoundLaws.{sound_told, sound_tested}
use Rattle.demands.proofs.ReadsBack.{held_readable, held_back, held_count}
use Rattle.demands.proofs.Admit.{held_told}
use Rattle.demands.proofs.Updated.{updated_good, updated_once}

-- ---- the row of stages of opened files, from two places on
abbrev change_answer : List ℕ → ℕ → List ℕ → ℕ → ℕ → Answer
change_answer cell n file m o =
    first_answer (filed 2 (placed_in file (change_fault (chart_of cell n) (change_of file m))))
    (first_answer (filed 3 (chart_topology (result_of cell n file m))) (held_answer o (result_of cell n file m)))

abbrev read_answer : List ℕ → ℕ → List ℕ → ℕ → ℕ → Answer
read_answer cell n file m o = first_answer (filed 1 (cell_fault cell n)) (first_answer (filed 2 (update_fault file m)) (change_answer cell n file m o))

-- ---- out of an answer 0
placed_told : (s : List ℕ) (r : Refusal) → (placed_in s r).code ≡ 0 → r.code ≡ 0
unfolding placed_in
placed_told s r h =
    ⊎_elim (λ (e : eqb r.code 0 ≡ true). eqb-true r.code 0 e) (λ (e : eqb r.code 0 ≡ false). rw e at h) (true_or_false (eqb r.code 0))

-- what is known of a file that is accepted on a cell
record Accepted (cell file : List ℕ) (w o : ℕ) : Type 0 where
  opened : front_of 1 cell ≡ Ok (count_in cell)
  second : front_of 2 file ≡ Ok (changes_in file)
  room : 16 * (count_in cell + changes_in file) ≤ w
  cell_fine : (cell_fault cell (count_in cell)).code ≡ 0
  file_fine : (update_fault file (changes_in file)).code ≡ 0
  change_fine : (change_fault (cell_chart cell) (file_change file)).code ≡ 0
  topology : (chart_topology (updated_by (cell_chart cell) file)).code ≡ 0
  fit : fits (updated_by (cell_chart cell) file) ≡ true
  long : length (held_of (updated_by (cell_chart cell) file)) ≤ o
  is : apply_of cell file w o ≡ answer 0 0 0 (length (held_of (updated_by (cell_chart cell) file))) 0

accepted : (cell file : List ℕ) (w o : ℕ) → (apply_of cell file w o).code ≡ 0 → Accepted cell file w o
unfolding apply_of
accepted cell file w o h =
    let n = count_in cell in
    let m = changes_in file in
    let made = result_of cell n file m in
    let fault = change_fault (chart_of cell n) (change_of file m) in
    let p = opening_told 1 cell (λ (i : ℕ). opening 2 file (λ (j : ℕ). first_answer (work_answer w (i + j)) (read_answer cell i file j o))) h in
    let q = opening_told 2 file (λ (j : ℕ). first_answer (work_answer w (n + j)) (read_answer cell n file j o)) p.2 in
    let a = work_told w (n + m) (read_answer cell n file m o) q.2 in
    let b = first_told (λ (x : Answer). x.code) (filed 1 (cell_fault cell n)) (first_answer (filed 2 (update_fault file m)) (change_answer cell n file m o)) a.2 in
    let c = first_told (λ (x : Answer). x.code) (filed 2 (update_fault file m)) (change_answer cell n file m o) b.2 in
    let d = first_told (λ (x : Answer). x.code) (filed 2 (placed_in file fault)) (first_answer (filed 3 (chart_topology made)) (held_answer o made)) c.2 in
    let e = first_told (λ (x : Answer). x.code) (filed 3 (chart_topology made)) (held_answer o made) d.2 in
    let t = held_told o made e.2 in
    record {
      opened = p.0;
      second = q.0;
      room = a.0;
      cell_fine = filed_told 1 (cell_fault cell n) b.0;
      file_fine = filed_told 2 (update_fault file m) c.0;
      change_fine = placed_told file fault (filed_told 2 (placed_in file fault) d.0);
      topology = filed_told 3 (chart_topology made) e.0;
      fit = t.0;
      long = t.1;
      is = p.1 ∙ q.1 ∙ a.1 ∙ b.1 ∙ c.1 ∙ d.1 ∙ e.1 ∙ t.2;
    }

-- ---- into an answer: of opened files
apply_opened : (cell : List ℕ) (n : ℕ) (file : List ℕ) (m : ℕ) → front_of 1 cell ≡ Ok n → front_of 2 file ≡ Ok m → (w o : ℕ)
    → apply_of cell file w o ≡ first_answer (work_answer w (n + m)) (read_answer cell n file m o)
unfolding apply_of fronted
apply_opened cell n file m opened second w o = rw (opened, second)

-- of readable files with work enough: what the change answers
read_change : (cell : List ℕ) (n : ℕ) (file : List ℕ) (m w o : ℕ) → 16 * (n + m) ≤ w → (cell_fault cell n).code ≡ 0 → (update_fault file m).code ≡ 0
    → first_answer (work_answer w (n + m)) (read_answer cell n file m o) ≡ change_answer cell n file m o
read_change cell n file m w o room first second =
    work_on w (n + m) (read_answer cell n file m o) room
    ∙ first_on (λ (x : Answer). x.code) (filed 1 (cell_fault cell n)) (first_answer (filed 2 (update_fault file m)) (change_answer cell n file m o))
    (filed_tested 1 (cell_fault cell n) first)
    ∙ first_on (λ (x : Answer). x.code) (filed 2 (update_fault file m)) (change_answer cell n file m o) (filed_tested 2 (update_fault file m) second)

change_done : (cell : List ℕ) (n : ℕ) (file : List ℕ) (m o : ℕ) → (change_fault (chart_of cell n) (change_of file m)).code ≡ 0 → (chart_topology (result_of cell n file m)).code ≡ 0
    → fits (result_of cell n file m) ≡ true → length (held_of (result_of cell n file m)) ≤ o
    → change_answer cell n file m o ≡ answer 0 0 0 (length (held_of (result_of cell n file m))) 0
unfolding first_by filed placed_in held_answer
change_done cell n file m o fault topology fit long =
    rw (
      eq-eqb (change_fault (chart_of cell n) (change_of file m)).code 0 fault,
      eq-eqb (chart_topology (result_of cell n file m)).code 0 topology,
      fit,
      le-ltb o (length (held_of (result_of cell n file m))) long,
    )

-- ---- `accepted_exactly`
-- what is accepted is accepted on a readable cell
pub accepted_readable : (cell file : List ℕ) (w o : ℕ) → (apply_of cell file w o).code ≡ 0 → Readable cell
accepted_readable cell file w o h = let a = accepted cell file w o h in record { opened = a.opened; fine = a.cell_fine }

accepted_only : (cell file : List ℕ) (w o : ℕ) → Bytes file → (apply_of cell file w o).code ≡ 0 → Allowed (cell_chart cell) file × Areas cell file w o
accepted_only cell file w o bytes h =
    let t = accepted cell file w o h in
    let made = updated_by (cell_chart cell) file in
    let reads : ReadableUpdate file = record { opened = t.second; fine = t.file_fine } in (
      record {
        reads = reads;
        rules = acceptable_told (cell_chart cell) (change_good file bytes reads) t.change_fine;
        result = sound_told made t.topology;
        limits = fits_told made t.fit;
      },
      record { work = t.room; output = t.long },
    )

accepted_all : (cell file : List ℕ) (w o : ℕ) → Readable cell → Allowed (cell_chart cell) file × Areas cell file w o → (apply_of cell file w o).code ≡ 0
accepted_all cell file w o r p =
    let n = count_in cell in
    let m = changes_in file in
    let a = p.0 in
    let made = updated_by (cell_chart cell) file in
    ap (λ (x : Answer). x.code)
    (apply_opened cell n file m r.opened a.reads.opened w o
    ∙ read_change cell n file m w o p.1.work r.fine a.reads.fine
    ∙ change_done cell n file m o (acceptable_tested a.rules) (sound_tested made a.result) (fits_tested made a.limits) p.1.output)

-- "On a readable cell an update is accepted exactly when its rules and its result's hold and the areas suffice"
pub accepted_exactly : (cell file : List ℕ) (w o : ℕ) → Bytes file → Readable cell
    → ((apply_of cell file w o).code ≡ 0 → Allowed (cell_chart cell) file × Areas cell file w o)
    × (Allowed (cell_chart cell) file × Areas cell file w o → (apply_of cell file w o).code ≡ 0)
accepted_exactly cell file w o these r = (accepted_only cell file w o these, accepted_all cell file w o r)

-- ---- `apply_writes`
pub record Applies (cell file : List ℕ) (w : ℕ) (out : List ℕ) : Type 0 where
  pub answered : apply_of cell file w (length out) ≡ answer 0 0 0 (length (held_of (updated_by (cell_chart cell) file))) 0
  pub fits_in : length (held_of (updated_by (cell_chart cell) file)) ≤ length out
  pub area : apply_area cell file w out ≡ held_of (updated_by (cell_chart cell) file) ++ drop (length (held_of (updated_by (cell_chart cell) file))) out

area_done : (cell file : List ℕ) (w : ℕ) (out : List ℕ) → apply_of cell file w (length out) ≡ answer 0 0 0 (length (held_of (updated_by (cell_chart cell) file))) 0
    → apply_area cell file w out ≡ held_of (updated_by (cell_chart cell) file) ++ drop (length (held_of (updated_by (cell_chart cell) file))) out
unfolding apply_area area_by written
area_done cell file w out is = rw is

pub apply_writes : (cell file : List ℕ) (w : ℕ) (out : List ℕ) → (apply_of cell file w (length out)).code ≡ 0 → Applies cell file w out
apply_writes cell file w out h =
    let t = accepted cell file w (length out) h in
    record { answered = t.is; fits_in = t.long; area = area_done cell file w out t.is }

-- ---- a refusal leaves the output as it was
pub apply_refuses : (cell file : List ℕ) (w : ℕ) (out : List ℕ) → ((apply_of cell file w (length out)).code ≡ 0 → ⊥) → apply_area cell file w out ≡ out
unfolding apply_area area_by
apply_refuses cell file w out ne = rw (ne_eqb (apply_of cell file w (length out)).code 0 ne)

-- ---- Apply of the same file on what Apply wrote
change_eleven : (c : Chart) (u : Change) → follow_code c.header u ≡ 11 → change_fault c u ≡ refusal 11 1 0
unfolding change_fault first_by
change_eleven c u e = rw e

answer_eleven : (cell : List ℕ) (n : ℕ) (file : List ℕ) (m o : ℕ) → change_fault (chart_of cell n) (change_of file m) ≡ refusal 11 1 0
    → change_answer cell n file m o ≡ answer 11 2 1 0 (record_at file 1)
unfolding first_by filed placed_in
answer_eleven cell n file m o e = rw e

module _ (cell file : List ℕ) (bytes : Bytes cell) (these : Bytes file) where
  -- what an allowed file makes of a readable cell
  pub applied_good : Readable cell → Allowed (cell_chart cell) file → Good (updated_by (cell_chart cell) file)
  applied_good r a = updated_good (cell_chart cell) file these (cell_good cell bytes r) a

  pub apply_again : (w o : ℕ) → (apply_of cell file w o).code ≡ 0 → (v p : ℕ) → 16 * (record_count (updated_by (cell_chart cell) file) + changes_in file) ≤ v
      → apply_of (held_of (updated_by (cell_chart cell) file)) file v p ≡ answer 11 2 1 0 (record_at file 1)
  apply_again w o h v p room =
      let a = (accepted_only cell file w o these h).0 in
      let made = updated_by (cell_chart cell) file in
      let good = applied_good (accepted_readable cell file w o h) a in
      let new = held_of made in
      let n = count_in new in
      let m = changes_in file in
      let r = held_readable made good in
      let enough : 16 * (n + m) ≤ v = rw (held_count made good) room in
      let fault : change_fault (chart_of new n) (file_change file) ≡ refusal 11 1 0 =
      ap (λ (x : Chart). change_fault x (file_change file)) (held_back made good) ∙ change_eleven made (file_change file) (updated_once (cell_chart cell) file a).not_again in
      apply_opened new n file m r.opened a.reads.opened v p ∙ read_change new n file m v p enough r.fine a.reads.fine ∙ answer_eleven new n file m p fault

  module _ (w o : ℕ) (h : (apply_of cell file w o).code ≡ 0) where
    these_good : Good (updated_by (cell_chart cell) file)
    these_good = applied_good (accepted_readable cell file w o h) (accepted_only cell file w o these h).0

    -- what was written shows the file's number
    pub applied_shows : (cell_chart (held_of (updated_by (cell_chart cell) file))).header.dsid.number ≡ (file_change file).dsid.number
    applied_shows =
        ap (λ (x : Chart). x.header.dsid.number) (held_back (updated_by (cell_chart cell) file) these_good)
        ∙ (updated_once (cell_chart cell) file (accepted_only cell file w o these h).0).number

    pub never_again : (v p : ℕ) → (apply_of (held_of (updated_by (cell_chart cell) file)) file v p).code ≡ 0 → ⊥
    never_again v p too =
        let follows = (accepted_only (held_of (updated_by (cell_chart cell) file)) file v p these too).0.rules.header.number in
        omega (arith, applied_shows)
