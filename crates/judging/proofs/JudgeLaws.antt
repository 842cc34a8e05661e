-- Laws of Judge: the codes in document 01's order. Assumes nothing.
use Prim.Native.Nat.{ℕ}
use mathlib.Core.Bool.{false}
use mathlib.Core.List.{List}
use mathlib.Core.Path.{◌≡◌, sym, ap, ◌∙◌}
use native.Mathlib.Omega.{arith}
use lib.ListN.{length}
use Rattle.answers.specs.Answer.{filed, outcome, answer_of}
use Rattle.answers.proofs.OutcomeLaws.{answer_told}
use Rattle.answers.specs.First.{first_answer}
use Rattle.answers.specs.declared.refusal.Refusal.{Refusal}
use Rattle.answers.specs.declared.answer.Answer.{Answer}
use Rattle.answers.proofs.FirstLaws.{first_on, first_stays}
use Rattle.layout.specs.Premises.{DspmThere}
use Rattle.names.specs.Premises.{Readable}
use Rattle.reader.specs.Reader.{front_of, cell_fault, work_answer}
use Rattle.std.specs.Prelude.{Result, Ok}
use Rattle.reader.proofs.ReaderLaws.{cell_good, cell_comf}
use Rattle.readboth.proofs.CallLaws.{front_opened, opening_on, worked_on}
use Rattle.readonce.specs.Once.{CellRead, CellRefused}
use Rattle.readonce.proofs.CellLaws.{refused_stays}
use Rattle.topology.specs.Topology.{topology_fault}
use Rattle.judging.specs.Judge.{cell_verdict, judge_of}

-- ---- codes 4 to 8, then the topology
verdict_read : (s : List ℕ) (n : ℕ) → ((cell_fault s n).code ≡ 0 → ⊥) → cell_verdict s n ≡ cell_fault s n
unfolding cell_verdict
verdict_read s n some = first_stays (λ (q : Refusal). q.code) (cell_fault s n) (topology_fault s n) some

verdict_on : (s : List ℕ) (n : ℕ) → (cell_fault s n).code ≡ 0 → topology_fault s n ≡ cell_verdict s n
unfolding cell_verdict
verdict_on s n none = sym (first_on (λ (q : Refusal). q.code) (cell_fault s n) (topology_fault s n) none)

-- ---- cell_verdict: of a cell that was read
module _ {s work : List ℕ} {n : ℕ} (so : CellRead s n work) where
  pub read_readable : Readable false s n
  read_readable = let o = front_opened 1 s n so.front in cell_good s n o.framed o.short so.fine

  pub read_comf : DspmThere s
  read_comf = let o = front_opened 1 s n so.front in cell_comf s n o.framed so.fine

  pub read_verdict : {t : Result Unit Refusal} → t ≡ outcome (topology_fault s n) → t ≡ outcome (cell_verdict s n)
  read_verdict e = e ∙ ap outcome (verdict_on s n so.fine)

-- ---- judged
pub judge_opened : (cell : List ℕ) (n : ℕ) → front_of 1 cell ≡ Ok n → (w : ℕ) → judge_of cell w ≡ first_answer (work_answer w n) (filed 1 (cell_verdict cell n))
unfolding judge_of
judge_opened cell n front w = opening_on 1 cell (λ (k : ℕ). first_answer (work_answer w k) (filed 1 (cell_verdict cell k))) n front

pub judged_filed : {s work : List ℕ} {n : ℕ} (w : ℕ) (a : Answer) {r : Result Unit Refusal} → length work ≡ w → CellRead s n work → r ≡ outcome (cell_verdict s n)
    → a ≡ answer_of 1 r → a ≡ judge_of s w
judged_filed {s} {work} {n} w a size so is e =
    worked_on w n (filed 1 (cell_verdict s n)) a (let room = so.room in omega arith) (e ∙ answer_told 1 _ is) ∙ sym (judge_opened s n so.front w)

-- a refusal in reading is the verdict
pub verdict_filed : (s : List ℕ) (n : ℕ) → ((cell_fault s n).code ≡ 0 → ⊥) → filed 1 (cell_verdict s n) ≡ filed 1 (cell_fault s n)
verdict_filed s n some = ap (filed 1) (verdict_read s n some)

pub judged_refused : {s : List ℕ} {w : ℕ} (a : Answer) → CellRefused s w a → a ≡ judge_of s w
unfolding judge_of
judged_refused {s} {w} a so = refused_stays so (λ (n : ℕ). filed 1 (cell_verdict s n)) (verdict_filed s)

-- ---- for the calls that open a file by itself
pub told_count : (file : ℕ) (s : List ℕ) (f : Result ℕ Answer) (n : ℕ) → f ≡ front_of file s → f ≡ Ok n → front_of file s ≡ Ok n
told_count file s f n is told = sym is ∙ told
