-- Laws of repeats among words whose places ascend: which words are repeats, and that `word_twice` answers the first of them. Assumes
-- nothing.
use Prim.Native.Nat.{ℕ, zero, suc, ◌+◌, ◌<◌}
use mathlib.Core.Bool.{Bool, true, false, ◌||◌, or-true}
use mathlib.Core.List.{List, [], ◌∷◌}
use mathlib.Core.Logic.{◌⊎◌, inl, inr, ⊎_elim}
use mathlib.Core.Path.{◌≡◌, refl}
use native.Mathlib.Nat.{add-zero}
use native.Mathlib.Omega.{arith}
use lib.ListN.{length, get_or}
use lib.Dec.{eqb}
use borrow.Author.Tests.{eq-eqb, eqb-true}
use Rattle.octets.specs.Lists.{is_in}
use Rattle.octets.proofs.Cases.{true_or_false}
use Rattle.items.specs.Word.{name_of, word_offset}
use Rattle.names.specs.NameWords.{word_twice}

-- word j has a name that was seen, or that a word before it has
unfoldable pub repeats : List ℕ → List ℕ → ℕ → Bool
repeats seen [] j = false
repeats seen (w ∷ ws) zero = is_in (name_of w) seen
repeats seen (w ∷ ws) (suc j) = repeats (name_of w ∷ seen) ws j

-- ---- in words of names
seen_repeats : (seen ws : List ℕ) (j : ℕ) → j < length ws → is_in (name_of (get_or ws j 0)) seen ≡ true → repeats seen ws j ≡ true
unfolding repeats is_in
seen_repeats seen [] j h is = absurd (omega arith)
seen_repeats seen (w ∷ ws) zero h is = is
seen_repeats seen (w ∷ ws) (suc j) h is =
    seen_repeats (name_of w ∷ seen) ws j (omega arith) (rw is (or-true (eqb (name_of w) (name_of (get_or ws j 0)))))

pub pair_repeats : (seen ws : List ℕ) (i j : ℕ) → i < j → j < length ws → name_of (get_or ws i 0) ≡ name_of (get_or ws j 0) → repeats seen ws j ≡ true
unfolding repeats is_in
pair_repeats seen [] i j less h e = absurd (omega arith)
pair_repeats seen (w ∷ ws) i zero less h e = absurd (omega arith)
pair_repeats seen (w ∷ ws) zero (suc j) less h e =
    seen_repeats (name_of w ∷ seen) ws j (omega arith) (rw (eq-eqb (name_of w) (name_of (get_or ws j 0)) e))
pair_repeats seen (w ∷ ws) (suc i) (suc j) less h e = pair_repeats (name_of w ∷ seen) ws i j (omega arith) (omega arith) e

-- a word before j that has its name
pub record Before (ws : List ℕ) (j : ℕ) : Type 0 where
  pub i : ℕ
  pub less : i < j
  pub same : name_of (get_or ws i 0) ≡ name_of (get_or ws j 0)

repeat_within : (seen ws : List ℕ) (j : ℕ) → repeats seen ws j ≡ true → j < length ws
unfolding repeats
repeat_within seen [] j is = absurd (let z : ◌≡◌ {A = ℕ} 0 1 = cc in omega arith)
repeat_within seen (w ∷ ws) zero is = omega arith
repeat_within seen (w ∷ ws) (suc j) is = let h = repeat_within (name_of w ∷ seen) ws j is in omega arith

repeat_before : (seen ws : List ℕ) (j : ℕ) → repeats seen ws j ≡ true → (is_in (name_of (get_or ws j 0)) seen ≡ true) ⊎ Before ws j
unfolding repeats is_in
repeat_before seen [] j is = absurd (let z : ◌≡◌ {A = ℕ} 0 1 = cc in omega arith)
repeat_before seen (w ∷ ws) zero is = inl is
repeat_before seen (w ∷ ws) (suc j) is =
    ⊎_elim (λ (h : is_in (name_of (get_or ws j 0)) (name_of w ∷ seen) ≡ true). apart (true_or_false (eqb (name_of w) (name_of (get_or ws j 0)))) h)
    (λ (b : Before ws j). let less = b.less in inr (record { i = suc b.i; less = omega arith; same = b.same }))
    (repeat_before (name_of w ∷ seen) ws j is)
  where
    apart : (eqb (name_of w) (name_of (get_or ws j 0)) ≡ true) ⊎ (eqb (name_of w) (name_of (get_or ws j 0)) ≡ false)
        → (eqb (name_of w) (name_of (get_or ws j 0)) || is_in (name_of (get_or ws j 0)) seen) ≡ true
        → (is_in (name_of (get_or ws j 0)) seen ≡ true) ⊎ Before (w ∷ ws) (suc j)
    apart t h =
        ⊎_elim (λ (e : eqb (name_of w) (name_of (get_or ws j 0)) ≡ true). inr (record { i = 0; less = omega arith; same = eqb-true _ _ e }))
        (λ (e : eqb (name_of w) (name_of (get_or ws j 0)) ≡ false). inl (rw e at h)) t

-- a repeat has a word of its name before it
pub repeat_pair : (ws : List ℕ) (j : ℕ) → repeats [] ws j ≡ true → (j < length ws) × Before ws j
unfolding is_in
repeat_pair ws j is = (
  repeat_within [] ws j is,
  ⊎_elim (λ (h : false ≡ true). absurd (let z : ◌≡◌ {A = ℕ} 0 1 = cc in omega arith)) (λ (b : Before ws j). b) (repeat_before [] ws j is),
)

-- ---- the first of them
pub twice_no : (k : ℕ) (seen ws : List ℕ) → ((j : ℕ) → repeats seen ws j ≡ true → ⊥) → word_twice k seen ws ≡ record { index = 0; offset = 0 }
unfolding word_twice repeats
twice_no k seen [] never = refl
twice_no k seen (w ∷ ws) never =
    ⊎_elim (λ (e : is_in (name_of w) seen ≡ true). absurd (never 0 e))
    (λ (e : is_in (name_of w) seen ≡ false). rw e (twice_no (k + 1) (name_of w ∷ seen) ws (λ (j : ℕ). never (suc j))))
    (true_or_false (is_in (name_of w) seen))

pub twice_first : (k : ℕ) (seen ws : List ℕ) (j : ℕ) → repeats seen ws j ≡ true → ((i : ℕ) → i < j → repeats seen ws i ≡ true → ⊥)
    → word_twice k seen ws ≡ record { index = k + j; offset = word_offset (get_or ws j 0) }
unfolding word_twice repeats
twice_first k seen [] j is never = absurd (let z : ◌≡◌ {A = ℕ} 0 1 = cc in omega arith)
twice_first k seen (w ∷ ws) zero is never = rw (is, add-zero k)
twice_first k seen (w ∷ ws) (suc j) is never =
    ⊎_elim (λ (e : is_in (name_of w) seen ≡ true). absurd (never 0 (omega arith) e))
    (λ (e : is_in (name_of w) seen ≡ false).
    let sum : k + 1 + j ≡ k + suc j = omega arith in
    rw e (rw sum at (twice_first (k + 1) (name_of w ∷ seen) ws j is (λ i less. never (suc i) (omega arith)))))
    (true_or_false (is_in (name_of w) seen))
