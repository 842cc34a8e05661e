-- From the verdict to the text: a cell that got 0 can be read, and each way through the code prints what the listing says. Assumes nothing.
use Prim.Native.Nat.{ℕ, ◌≤◌, ◌<◌}
use mathlib.Core.Bool.{false}
use mathlib.Core.List.{List}
use mathlib.Core.Path.{◌≡◌, refl, sym, ap, ◌∙◌}
use native.Mathlib.Omega.{arith}
use lib.ListN.{length}
use borrow.Author.Tests.{ne_eqb, lt-ltb, le-ltb}
use Rattle.std.specs.Prelude.{Result, Ok, Err}
use Rattle.octets.specs.Area.{Wrote}
use Rattle.octets.proofs.AreaLaws.{wrote_none, wrote_as}
use Rattle.iso8211.specs.File.{frame_of}
use Rattle.names.specs.Premises.{Readable}
use Rattle.reader.specs.Reader.{framed_front, front_of, cell_fault, work_answer, fronted}
use Rattle.reader.proofs.ReaderLaws.{cell_good}
use Rattle.judging.specs.Judge.{cell_verdict, judge_of}
use Rattle.loader.proofs.ReadLaws.{judge_small}
use Rattle.listingrows.specs.Text.{refused_text}
use Rattle.listingrows.specs.Listing.{lines_of, framed_lines, listing_with, listing_of, JudgedCell}
use Rattle.listingrows.proofs.RecordsLaws.{records_few}
use Rattle.answers.specs.declared.refusal.Refusal.{Refusal}
use Rattle.answers.specs.Answer.{filed}
use Rattle.answers.specs.declared.answer.Answer.{Answer}
use Rattle.judging.proofs.JudgeLaws.{judge_opened}
use Rattle.readboth.proofs.CallLaws.{work_on, work_told}
use Rattle.topology.specs.Topology.{topology_fault}
use Rattle.answers.specs.First.{first_answer}
use Rattle.answers.proofs.FirstLaws.{first_told}
use Rattle.answers.proofs.AnswerLaws.{filed_told}

-- ---- a verdict of 0
front_count : (s : List ℕ) (n : ℕ) → length s ≤ 65536 → frame_of s ≡ Ok n → front_of 1 s ≡ Ok n
unfolding front_of framed_front
front_count s n short framed = rw (le-ltb 5242880 (length s) (omega arith), framed)

judge_counted : (s : List ℕ) (w n : ℕ) → length s ≤ 65536 → frame_of s ≡ Ok n → judge_of s w ≡ first_answer (work_answer w n) (filed 1 (cell_verdict s n))
judge_counted s w n short framed = judge_opened s n (front_count s n short framed) w

verdict_zero : (s : List ℕ) (n : ℕ) → (cell_verdict s n).code ≡ 0 → (cell_fault s n).code ≡ 0
unfolding cell_verdict
verdict_zero s n z = (first_told (λ (r : Refusal). r.code) (cell_fault s n) (topology_fault s n) z).0

-- a cell that got 0 can be read
pub judged : (s : List ℕ) (w : ℕ) (a : Answer) → length s ≤ 65536 → a ≡ judge_of s w → JudgedCell s a
judged s w a short is = record {
  good = λ z n framed.
      let checked = ap (λ (b : Answer). b.code) (sym (is ∙ judge_counted s w n short framed)) ∙ z in
      cell_good s n framed (omega arith) (verdict_zero s n (filed_told 1 (cell_verdict s n) (work_told w n (filed 1 (cell_verdict s n)) checked).2));
}

-- the record named fits 32 bits
pub judged_index : (s : List ℕ) (w : ℕ) (a : Answer) → a ≡ judge_of s w → a.index < 4294967296
judged_index s w a is = rw is (judge_small s w).index_small

-- a cell that is not framed got 2, so no cell that got 0 prints nothing
pub judge_broken : (s : List ℕ) (w k : ℕ) → length s ≤ 65536 → frame_of s ≡ Err k → (judge_of s w).code ≡ 2
unfolding judge_of fronted front_of framed_front
judge_broken s w k short e = rw (le-ltb 5242880 (length s) (omega arith), e)

-- ---- "Its work area always suffices": code 3 doesn't come, and a longer area would change nothing
pub work_suffices : (s : List ℕ) (n w : ℕ) (on : Answer) → length s ≤ 65536 → 32768 ≤ w → frame_of s ≡ Ok n → first_answer (work_answer w n) on ≡ on
work_suffices s n w on short room framed = work_on w n on (omega (arith, records_few s n framed short))

same_framed : (s : List ℕ) (w : ℕ) (f : Result ℕ ℕ) → length s ≤ 65536 → 32768 ≤ w → frame_of s ≡ f → judge_of s w ≡ judge_of s 32768
unfolding judge_of fronted front_of framed_front
same_framed s w (Ok n) short room e =
    judge_counted s w n short e ∙ work_suffices s n w _ short room e
    ∙ sym (judge_counted s 32768 n short e ∙ work_suffices s n 32768 _ short (omega arith) e)
same_framed s w (Err k) short room e = rw (le-ltb 5242880 (length s) (omega arith), e)

pub judge_same : (s : List ℕ) (w : ℕ) → length s ≤ 65536 → 32768 ≤ w → judge_of s w ≡ judge_of s 32768
judge_same s w short room = same_framed s w (frame_of s) short room refl

-- ---- put_answer: one law for each way out
module _ (s : List ℕ) (a : Answer) where
  with_refused : (a.code ≡ 0 → ⊥) → listing_with a s ≡ refused_text a.code a.file a.index
  unfolding listing_with
  with_refused h = rw (ne_eqb a.code 0 h)

  pub answer_refused : {x y : List ℕ} {r : ℕ} → (a.code ≡ 0 → ⊥) → Wrote x 0 (refused_text a.code a.file a.index) y r
      → Wrote x 0 (listing_with a s) y r
  answer_refused h wrote = wrote_as (listing_with a s) (sym (with_refused h)) wrote

  module _ (z : a.code ≡ 0) (framed : Result ℕ ℕ) (is : framed ≡ frame_of s) where
    with_framed : listing_with a s ≡ framed_lines s framed
    unfolding listing_with
    with_framed = rw (z, ← is)

    pub answer_broken : (x : List ℕ) (k : ℕ) → framed ≡ Err k → Wrote x 0 (listing_with a s) x 0
    unfolding framed_lines
    answer_broken x k e = wrote_as (listing_with a s) (sym (with_framed ∙ rw e)) (wrote_none x 0 (omega arith))

    pub answer_lines : {x y : List ℕ} {n r : ℕ} → framed ≡ Ok n → Wrote x 0 (lines_of s n) y r → Wrote x 0 (listing_with a s) y r
    unfolding framed_lines
    answer_lines e wrote = wrote_as (listing_with a s) (sym (with_framed ∙ rw e)) wrote

    pub answer_readable : (n : ℕ) → JudgedCell s a → framed ≡ Ok n → Readable false s n
    answer_readable n known e = known.good z n (sym is ∙ e)

-- ---- list: one law for each way out
pub list_long : {x y : List ℕ} {r : ℕ} (s : List ℕ) → 65536 < length s → Wrote x 0 (refused_text 1 1 0) y r → Wrote x 0 (listing_of s) y r
unfolding listing_of
list_long s h wrote = rw (lt-ltb 65536 (length s) h) wrote

pub list_judged : {x y : List ℕ} {r : ℕ} (s : List ℕ) (w : ℕ) (a : Answer) → length s ≤ 65536 → w ≡ 32768 → a ≡ judge_of s w
    → Wrote x 0 (listing_with a s) y r → Wrote x 0 (listing_of s) y r
unfolding listing_of
list_judged s w a h e is wrote = rw (le-ltb 65536 (length s) h, ← e, ← is) wrote
