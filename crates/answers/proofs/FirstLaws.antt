-- Laws of the order of refusals: what comes of two stages. Assumes nothing.
use Prim.Native.Nat.{ℕ}
use mathlib.Core.Bool.{true, false}
use mathlib.Core.Logic.{⊎_elim}
use mathlib.Core.Path.{◌≡◌, ap, ◌∙◌}
use lib.Dec.{eqb}
use borrow.Author.Tests.{eq-eqb, ne_eqb, eqb-true, eqb-false}
use Rattle.octets.proofs.Cases.{true_or_false}
use Rattle.answers.specs.First.{first_by}

module _ {A : Type 0} (code : A → ℕ) (a on : A) where
  -- a stage that finds nothing hands on; one that finds something answers
  pub first_on : code a ≡ 0 → first_by code a on ≡ on
  unfolding first_by
  first_on none = rw (eq-eqb (code a) 0 none)

  pub first_stays : (code a ≡ 0 → ⊥) → first_by code a on ≡ a
  unfolding first_by
  first_stays ne = rw (ne_eqb (code a) 0 ne)

  -- nothing is found exactly where neither finds anything
  pub first_told : code (first_by code a on) ≡ 0 → (code a ≡ 0) × (first_by code a on ≡ on) × (code on ≡ 0)
  unfolding first_by
  first_told h =
      ⊎_elim (λ (e : eqb (code a) 0 ≡ true). (eqb-true (code a) 0 e, rw e, rw e at h))
      (λ (e : eqb (code a) 0 ≡ false). absurd (eqb-false (code a) 0 e (rw e at h))) (true_or_false (eqb (code a) 0))

  pub first_tested : code a ≡ 0 → code on ≡ 0 → code (first_by code a on) ≡ 0
  first_tested none rest = ap code (first_on none) ∙ rest

  -- rows join
  pub first_join : (last : A) → first_by code (first_by code a on) last ≡ first_by code a (first_by code on last)
  unfolding first_by
  first_join last =
      ⊎_elim (λ (e : eqb (code a) 0 ≡ true). rw e) (λ (e : eqb (code a) 0 ≡ false). rw (e, e)) (true_or_false (eqb (code a) 0))
