-- Laws of Admit: the codes in document 01's order, and the output. Assumes nothing.
use Prim.Native.Nat.{ℕ, ◌-◌, ◌*◌, ◌≤◌, ◌<◌}
use mathlib.Core.Bool.{true, false, not}
use mathlib.Core.List.{List}
use mathlib.Core.Path.{◌≡◌, refl, sym, ap, ◌∙◌}
use native.Mathlib.Nat.{zero-add}
use native.Mathlib.Omega.{arith}
use borrow.Author.Tests.{eq-eqb, ne_eqb, lt-ltb, le-ltb, lt-leb, not-true, not-false}
use lib.ListN.{length}
use Rattle.octets.specs.Number.{byte_at}
use Rattle.octets.specs.Area.{Wrote}
use Rattle.octets.proofs.AreaLaws.{wrote_whole}
use Rattle.words.specs.Words.{words_in}
use Rattle.chart.specs.Read.{read_fault}
use Rattle.names.specs.Names.{twice_of}
use Rattle.counted.specs.Counts.{counts_good}
use Rattle.names.specs.Premises.{HeldIn}
use Rattle.reader.specs.Reader.{front_of, work_answer, cell_fault, records_in}
use Rattle.std.specs.Prelude.{Result, Ok, Err}
use Rattle.reader.proofs.ReaderLaws.{readable, dssi_read, dspm_read, cell_parts}
use Rattle.topology.specs.Topology.{topology_fault}
use Rattle.held.specs.Chart.{Chart, chart_of}
use Rattle.held.specs.Held.{held_of}
use Rattle.held.specs.Limits.{record_count, fits}
use Rattle.reissue.specs.Plan.{chart_from, Ready, Planned, Writing}
use Rattle.reissue.specs.declared.plan.Plan.{Plan}
use Rattle.reissue.proofs.WordLaws.{ready}
use Rattle.judging.specs.Judge.{cell_verdict}
use Rattle.loader.specs.Admit.{held_answer, written, admit_of, admit_area, area_by, cell_chart}
use Rattle.answers.specs.declared.refusal.Refusal.{Refusal}
use Rattle.answers.specs.Answer.{answer, filed, outcome}
use Rattle.reader.specs.Lent.{FileOpened}
use Rattle.answers.specs.declared.answer.Answer.{Answer}
use Rattle.readonce.specs.Once.{CellRead, CellRefused}
use Rattle.readonce.proofs.CellLaws.{refused_stays}
use Rattle.judging.proofs.JudgeLaws.{verdict_filed}
use Rattle.loader.specs.Settling.{Settling}
use Rattle.readboth.proofs.CallLaws.{front_opened, opening_on, worked_on}
use Rattle.answers.specs.First.{first_answer}
use Rattle.answers.proofs.FirstLaws.{first_told, first_stays}
use Rattle.answers.proofs.AnswerLaws.{code_kept, filed_some, filed_told, filed_first, filed_on}
use Rattle.answers.proofs.OutcomeLaws.{none_of, some_of}

-- ---- what a verdict without a code says
pub record Told (s : List ℕ) (n : ℕ) : Type 0 where
  pub read : (read_fault false s n).code ≡ 0
  pub once : (twice_of false s n).index ≡ 0
  pub counted : counts_good s n ≡ true
  pub topology : (topology_fault s n).code ≡ 0

pub verdict_told : (s : List ℕ) (n : ℕ) → (cell_verdict s n).code ≡ 0 → Told s n
unfolding cell_verdict
verdict_told s n h =
    let v = first_told (λ (r : Refusal). r.code) (cell_fault s n) (topology_fault s n) h in
    let p = cell_parts s n v.0 in
    record { read = p.0; once = p.1; counted = p.2; topology = v.2 }

-- ---- held_into
module _ (s work : List ℕ) (n : ℕ) (so : Ready s n work) where
  pub many_fail : 65536 < n → fits (chart_of s n) ≡ false
  unfolding fits
  many_fail h = let c = so.count in let t = so.three in rw (lt-leb (record_count (chart_of s n)) 65536 (omega arith))

  pub ready_writing : n ≤ 65536 → Writing s (n - 3) work
  ready_writing few = so.writing few

  module _ (m : ℕ) (p : Plan) (is : m ≡ n - 3) (told : Planned (chart_from s (words_in work 0 m)) p) where
    plan_same : Planned (chart_of s n) p
    plan_same = rw so.same at (rw is at told)

    pub plan_fails : not p.fits ≡ true → fits (chart_of s n) ≡ false
    plan_fails h = sym plan_same.fits_is ∙ not-true p.fits h

    pub plan_fits : not p.fits ≡ false → fits (chart_of s n) ≡ true
    plan_fits h = sym plan_same.fits_is ∙ not-false p.fits h

    pub plan_room : (k : ℕ) → p.total ≤ k → length (held_of (chart_from s (words_in work 0 m))) ≤ k
    plan_room k h = omega (arith, told.total_is)

    pub plan_put : {a b : List ℕ} {r : ℕ} → Wrote a 0 (held_of (chart_from s (words_in work 0 m))) b r → Wrote a 0 (held_of (chart_of s n)) b r
    plan_put w = rw so.same at (rw is at w)

    pub plan_total : p.total ≡ length (held_of (chart_of s n))
    plan_total = plan_same.total_is

module _ (c : Chart) (o : ℕ) where
  pub size_answer : (a : Answer) → fits c ≡ false → a ≡ answer 20 3 0 0 0 → a ≡ held_answer o c
  unfolding held_answer
  size_answer a f e = e ∙ rw f

  module _ (f : fits c ≡ true) (total : ℕ) (is : total ≡ length (held_of c)) where
    pub room_answer : (a : Answer) → o < total → a ≡ answer 21 0 0 total 0 → a ≡ held_answer o c
    unfolding held_answer
    room_answer a h e = e ∙ rw (f, ← is, lt-ltb o total h)

    pub done_answer : (a : Answer) → total ≤ o → a ≡ answer 0 0 0 total 0 → a ≡ held_answer o c
    unfolding held_answer
    done_answer a h e = e ∙ rw (f, ← is, le-ltb o total h)

-- ---- an answer and the output behind it
module _ (c : Chart) (out : List ℕ) (a : Answer) where
  pub area_kept : (a.code ≡ 0 → ⊥) → out ≡ area_by a c out
  unfolding area_by
  area_kept ne = rw (ne_eqb a.code 0 ne)

  pub work_area : (k : ℕ) → a ≡ answer 3 0 0 k 0 → out ≡ area_by a c out
  work_area k e = area_kept (code_kept 3 0 0 k 0 a (λ z. omega arith) e)

  pub size_area : a ≡ answer 20 3 0 0 0 → out ≡ area_by a c out
  size_area e = area_kept (code_kept 20 3 0 0 0 a (λ z. omega arith) e)

  pub room_area : (k : ℕ) → a ≡ answer 21 0 0 k 0 → out ≡ area_by a c out
  room_area k e = area_kept (code_kept 21 0 0 k 0 a (λ z. omega arith) e)

  pub filed_area : (file : ℕ) (r : Refusal) → (r.code ≡ 0 → ⊥) → a ≡ answer r.code file r.index 0 r.offset → out ≡ area_by a c out
  filed_area file r ne e = area_kept (λ z. ne (ap (λ (x : Answer). x.code) (sym e) ∙ z))

  pub done_area : (next : List ℕ) (r k : ℕ) → a ≡ answer 0 0 0 k 0 → Wrote out 0 (held_of c) next r → next ≡ area_by a c out
  unfolding area_by written
  done_area next r k e w =
      let end : r ≡ length (held_of c) = w.end ∙ zero-add (length (held_of c)) in
      let none : a.code ≡ 0 = ap (λ (x : Answer). x.code) e in
      rw (eq-eqb a.code 0 none) (wrote_whole w ∙ rw end)

-- ---- settled
module _ (s work : List ℕ) (n : ℕ) (r : Refusal) (is : r ≡ cell_verdict s n) (none : r.code ≡ 0) where
  pub admitted_ready : ((i : ℕ) → byte_at s i < 256) → FileOpened s n → 16 * n ≤ length work → HeldIn s n work → Ready s n work
  admitted_ready small so room held =
      let t = verdict_told s n (ap (λ (q : Refusal). q.code) (sym is) ∙ none) in
      ready s work n small (readable false s n so.framed so.short t.read) (dssi_read s n so.framed t.read) (dspm_read s n so.framed t.read) t.read
      t.once held room

-- of an opened cell
module _ (cell : List ℕ) (n : ℕ) (front : front_of 1 cell ≡ Ok n) (w : ℕ) where
  pub admit_opened : (o : ℕ) → admit_of cell w o ≡ first_answer (work_answer w n) (first_answer (filed 1 (cell_verdict cell n)) (held_answer o (chart_of cell n)))
  unfolding admit_of
  admit_opened o =
      opening_on 1 cell (λ (k : ℕ). first_answer (work_answer w k) (first_answer (filed 1 (cell_verdict cell k)) (held_answer o (chart_of cell k)))) n front

  module _ (room : 16 * n ≤ w) (r : Refusal) (is : r ≡ cell_verdict cell n) (o : ℕ) (a : Answer) where
    pub admitted_filed : (r.code ≡ 0 → ⊥) → a ≡ filed 1 r → a ≡ admit_of cell w o
    admitted_filed ne e = rw (admit_opened o, ← is) (worked_on w n _ a room (filed_first 1 r _ a ne e))

    pub admitted_held : r.code ≡ 0 → a ≡ held_answer o (chart_of cell n) → a ≡ admit_of cell w o
    admitted_held none e = rw (admit_opened o, ← is) (worked_on w n _ a room (filed_on 1 r _ a none e))

-- ---- the output
pub area_opened : (cell : List ℕ) (n : ℕ) → front_of 1 cell ≡ Ok n → (w : ℕ) (out next : List ℕ) (a : Answer) → a ≡ admit_of cell w (length out)
    → next ≡ area_by a (chart_of cell n) out → next ≡ admit_area cell w out
unfolding admit_area records_in
area_opened cell n front w out next a is e = e ∙ rw (front, is)

-- ---- of a cell that was judged
module _ {s work : List ℕ} {n : ℕ} {r : Result Unit Refusal} (so : Settling s n r work) where
  pub settled_ready : {u : Unit} → r ≡ Ok u → ((i : ℕ) → byte_at s i < 256) → Ready s n work
  settled_ready none small =
      admitted_ready s work n (cell_verdict s n) refl (none_of _ so.is none) small (front_opened 1 s n so.front) so.room (so.words none)

  module _ (o : ℕ) (a : Answer) where
    pub settled_filed : {q : Refusal} → r ≡ Err q → a ≡ answer q.code 1 q.index 0 q.offset → a ≡ admit_of s (length work) o
    settled_filed {q} told e = let p = some_of _ so.is told in admitted_filed s n so.front (length work) so.room q p.0 o a p.1 (filed_some 1 q a p.1 e)

    pub settled_held : {u : Unit} → r ≡ Ok u → a ≡ held_answer o (chart_of s n) → a ≡ admit_of s (length work) o
    settled_held none e = admitted_held s n so.front (length work) so.room (cell_verdict s n) refl o a (none_of _ so.is none) e

  module _ (out : List ℕ) (a : Answer) where
    pub settled_kept : {q : Refusal} → r ≡ Err q → a ≡ answer q.code 1 q.index 0 q.offset → out ≡ admit_area s (length work) out
    settled_kept {q} told e =
        let some = (some_of _ so.is told).1 in
        area_opened s n so.front (length work) out out a (settled_filed (length out) a told e)
        (filed_area (chart_of s n) out a 1 q some e)

    pub settled_put : {u : Unit} (next : List ℕ) → r ≡ Ok u → a ≡ held_answer (length out) (chart_of s n) → next ≡ area_by a (chart_of s n) out
        → next ≡ admit_area s (length work) out
    settled_put next none e by = area_opened s n so.front (length work) out next a (settled_held (length out) a none e) by

-- ---- admitted
pub settling : {s before work : List ℕ} {n : ℕ} {r : Result Unit Refusal} → CellRead s n before → length work ≡ length before → r ≡ outcome (cell_verdict s n)
    → (r ≡ Ok tt → HeldIn s n work) → Settling s n r work
settling so size is words = record { front = so.front; room = (let room = so.room in omega arith); is = is; words = words }

-- the work area keeps its length while the cell is read
pub admit_along : (s out : List ℕ) {next : List ℕ} {v w : ℕ} {a : Answer} → v ≡ w → (a ≡ admit_of s v (length out)) × (next ≡ admit_area s v out)
    → (a ≡ admit_of s w (length out)) × (next ≡ admit_area s w out)
admit_along s out e so = rw e at so

-- a refusal in reading stays
module _ {s : List ℕ} {w : ℕ} (a : Answer) (so : CellRefused s w a) where
  admit_refused : (o : ℕ) → a ≡ admit_of s w o
  unfolding admit_of
  admit_refused o =
      refused_stays so (λ (n : ℕ). first_answer (filed 1 (cell_verdict s n)) (held_answer o (chart_of s n)))
      (λ n some.
      let same = verdict_filed s n some in
      first_stays (λ (x : Answer). x.code) (filed 1 (cell_verdict s n)) (held_answer o (chart_of s n))
      (λ (z : (filed 1 (cell_verdict s n)).code ≡ 0). some (filed_told 1 (cell_fault s n) (ap (λ (x : Answer). x.code) (sym same) ∙ z)))
      ∙ same)

  pub refused_both : (out : List ℕ) → (a ≡ admit_of s w (length out)) × (out ≡ admit_area s w out)
  unfolding admit_area
  refused_both out = (admit_refused (length out), rw (← admit_refused (length out)) (area_kept (cell_chart s) out a so.code))
