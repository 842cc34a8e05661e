-- Laws of answers: a refusal filed, and what comes first. Assumes nothing.
use Prim.Native.Nat.{ℕ}
use mathlib.Core.Logic.{⊎_elim}
use mathlib.Core.Path.{◌≡◌, refl, sym, ap, ◌∙◌}
use borrow.Author.Tests.{eq-eqb, ne_eqb}
use Rattle.octets.proofs.Cases.{eq_or_ne}
use Rattle.answers.specs.Answer.{answer, filed}
use Rattle.answers.specs.First.{first_answer}
use Rattle.answers.specs.declared.refusal.Refusal.{Refusal}
use Rattle.answers.specs.declared.answer.Answer.{Answer}
use Rattle.answers.proofs.FirstLaws.{first_on, first_stays}

-- ---- filed
pub filed_none : (file : ℕ) (r : Refusal) (a : Answer) → r.code ≡ 0 → a ≡ answer 0 0 0 0 0 → a ≡ filed file r
unfolding filed
filed_none file r a z e = e ∙ rw z

pub filed_some : (file : ℕ) (r : Refusal) (a : Answer) → (r.code ≡ 0 → ⊥) → a ≡ answer r.code file r.index 0 r.offset → a ≡ filed file r
unfolding filed
filed_some file r a n e = e ∙ rw (ne_eqb _ _ n)

-- its code is the refusal's
pub filed_code : (file : ℕ) (r : Refusal) → (filed file r).code ≡ r.code
unfolding filed
filed_code file r =
    ⊎_elim (λ (z : r.code ≡ 0). rw (eq-eqb _ _ z) (sym z)) (λ (h : r.code ≡ 0 → ⊥). rw (ne_eqb _ _ h) refl) (eq_or_ne r.code 0)

pub filed_told : (file : ℕ) (r : Refusal) → (filed file r).code ≡ 0 → r.code ≡ 0
filed_told file r z = sym (filed_code file r) ∙ z

pub filed_tested : (file : ℕ) (r : Refusal) → r.code ≡ 0 → (filed file r).code ≡ 0
filed_tested file r none = filed_code file r ∙ none

pub filed_kept : (file : ℕ) (r : Refusal) (a : Answer) → (r.code ≡ 0 → ⊥) → a ≡ filed file r → a.code ≡ 0 → ⊥
filed_kept file r a ne e z = ne (filed_told file r (ap (λ (x : Answer). x.code) (sym e) ∙ z))

-- ---- an answer with a code isn't 0
pub told_code : (a b : Answer) → a ≡ b → a.code ≡ b.code
told_code a b is = ap (λ (x : Answer). x.code) is

pub code_kept : (k file i num p : ℕ) (a : Answer) → (k ≡ 0 → ⊥) → a ≡ answer k file i num p → a.code ≡ 0 → ⊥
code_kept k file i num p a ne e z = ne (sym (ap (λ (x : Answer). x.code) e) ∙ z)

-- ---- a refusal filed, or what comes on
module _ (file : ℕ) (r : Refusal) (on a : Answer) where
  pub filed_first : (r.code ≡ 0 → ⊥) → a ≡ filed file r → a ≡ first_answer (filed file r) on
  filed_first ne e = e ∙ sym (first_stays (λ (x : Answer). x.code) (filed file r) on (λ (z : (filed file r).code ≡ 0). ne (filed_told file r z)))

  pub filed_on : r.code ≡ 0 → a ≡ on → a ≡ first_answer (filed file r) on
  filed_on none e = e ∙ sym (first_on (λ (x : Answer). x.code) (filed file r) on (filed_tested file r none))
