-- Laws of what a stage tells: how it is made of its refusal, and read back. Assumes nothing.
use Prim.Native.Nat.{ℕ, suc}
use mathlib.Core.Logic.{⊎_elim}
use mathlib.Core.Path.{◌≡◌, refl, sym, ap, ◌∙◌}
use native.Mathlib.Omega.{arith}
use borrow.Author.Tests.{eq-eqb, ne_eqb}
use Rattle.std.specs.Prelude.{Result, Ok, Err}
use Rattle.octets.proofs.Cases.{eq_or_ne}
use Rattle.answers.specs.Answer.{refusal, answer, filed, outcome, answer_of}
use Rattle.answers.specs.First.{first_refusal}
use Rattle.answers.specs.declared.refusal.Refusal.{Refusal}
use Rattle.answers.specs.declared.answer.Answer.{Answer}
use Rattle.answers.proofs.FirstLaws.{first_stays}
use Rattle.answers.proofs.AnswerLaws.{filed_none, filed_some}

-- ---- made of it: by its code
pub fine_told : (w : Refusal) → w.code ≡ 0 → Ok tt ≡ outcome w
unfolding outcome
fine_told w z = rw (eq-eqb _ _ z)

pub some_told : {a w : Refusal} → a ≡ w → (a.code ≡ 0 → ⊥) → Err a ≡ outcome w
unfolding outcome
some_told e some = rw (← e, ne_eqb _ _ some)

-- of one that the code makes
pub made_told : {k i p : ℕ} {a w : Refusal} → a ≡ refusal (suc k) i p → a ≡ w → Err a ≡ outcome w
made_told made e = some_told e (λ z. let same = sym (ap (λ (q : Refusal). q.code) made) ∙ z in omega arith)

-- ---- read back
pub none_of : (w : Refusal) {r : Result Unit Refusal} {u : Unit} → r ≡ outcome w → r ≡ Ok u → w.code ≡ 0
unfolding outcome
none_of w {r} {u} e h =
    ⊎_elim (λ (z : w.code ≡ 0). z) (λ (some : w.code ≡ 0 → ⊥). absurd (let q : r ≡ Err w = rw (ne_eqb _ _ some) at e in cc)) (eq_or_ne w.code 0)

pub some_of : (w : Refusal) {r : Result Unit Refusal} {a : Refusal} → r ≡ outcome w → r ≡ Err a → (a ≡ w) × (a.code ≡ 0 → ⊥)
unfolding outcome
some_of w {r} {a} e h =
    ⊎_elim (λ (z : w.code ≡ 0). absurd (let q : r ≡ Ok tt = rw (eq-eqb _ _ z) at e in cc))
    (λ (some : w.code ≡ 0 → ⊥). let q : r ≡ Err w = rw (ne_eqb _ _ some) at e in let same : a ≡ w = cc in (same, rw (← same) at some)) (eq_or_ne w.code 0)

pub fine_is : (w : Refusal) {r : Result Unit Refusal} → r ≡ outcome w → w.code ≡ 0 → r ≡ Ok tt
fine_is w e z = e ∙ sym (fine_told w z)

-- ---- of stages in a row: the first that refuses
pub told_first : (w on : Refusal) {r : Result Unit Refusal} {a : Refusal} → r ≡ outcome w → r ≡ Err a → Err a ≡ outcome (first_refusal w on)
told_first w on e h =
    let p = some_of w e h in
    some_told (p.0 ∙ sym (first_stays (λ (q : Refusal). q.code) w on (λ z. p.1 (ap (λ (q : Refusal). q.code) p.0 ∙ z)))) p.1

-- ---- answered for its file
pub answer_fine : (file : ℕ) {r : Result Unit Refusal} {u : Unit} {a : Answer} → r ≡ Ok u → a ≡ answer 0 0 0 0 0 → a ≡ answer_of file r
unfolding answer_of
answer_fine file told e = rw told e

pub answer_refused : (file : ℕ) {r : Result Unit Refusal} {w : Refusal} {a : Answer} → r ≡ Err w → a ≡ answer w.code file w.index 0 w.offset → a ≡ answer_of file r
unfolding answer_of
answer_refused file told e = rw told e

pub answer_told : (file : ℕ) (w : Refusal) {r : Result Unit Refusal} → r ≡ outcome w → answer_of file r ≡ filed file w
answer_told file w {r} e =
    ⊎_elim (λ (z : w.code ≡ 0). filed_none file w (answer_of file r) z (sym (answer_fine file (e ∙ sym (fine_told w z)) refl)))
    (λ (some : w.code ≡ 0 → ⊥). filed_some file w (answer_of file r) some (sym (answer_refused file (e ∙ sym (some_told {a = w} refl some)) refl))) (eq_or_ne w.code 0)
