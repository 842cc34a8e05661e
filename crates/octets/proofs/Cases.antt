-- Cases on two numbers, to be taken apart by ⊎_elim. Assumes nothing.
use Rattle.std.proofs.Common.{◌≡◌, ℕ, ◌<◌, ◌≤◌, Bool, true, false, eqb, leb, ◌⊎◌, refl, inl, inr, ⊎_elim, eqb-true, leb-false, leb-true}
use borrow.Author.Tests.{eqb-false}

is_true_or_false : (b : Bool) → (b ≡ true) ⊎ (b ≡ false)
is_true_or_false true = inl refl
is_true_or_false false = inr refl

-- ---- a Bool is one of two
pub true_or_false : (b : Bool) → (b ≡ true) ⊎ (b ≡ false)
true_or_false b = is_true_or_false b

pub le_or_lt : (a b : ℕ) → (a ≤ b) ⊎ (b < a)
le_or_lt a b = ⊎_elim (λ (h : leb a b ≡ true). inl (leb-true a b h)) (λ (h : leb a b ≡ false). inr (leb-false a b h)) (true_or_false (leb a b))

pub eq_or_ne : (a b : ℕ) → (a ≡ b) ⊎ (a ≡ b → ⊥)
eq_or_ne a b = ⊎_elim (λ (h : eqb a b ≡ true). inl (eqb-true a b h)) (λ (h : eqb a b ≡ false). inr (eqb-false a b h)) (true_or_false (eqb a b))
