-- Laws of `first_from`: what stands before the place and at it; whether the word is there; a search that halves. Assumes nothing.
use Prim.Native.Nat.{ℕ, zero, suc, ◌+◌, ◌-◌, ◌/◌, ◌≤◌, ◌<◌}
use mathlib.Core.Bool.{true, false}
use mathlib.Core.List.{List, [], ◌∷◌}
use mathlib.Core.Path.{◌≡◌, refl, sym, ap, ◌∙◌}
use mathlib.Core.Logic.{◌⊎◌, inl, inr, ⊎_elim}
use native.Mathlib.Omega.{arith}
use lib.ListN.{length, get_or}
use borrow.Author.Tests.{lt-ltb, le-ltb}
use Rattle.octets.proofs.ListLaws.{member_at, member_none}
use Rattle.octets.specs.Lists.{is_in}
use Rattle.octets.proofs.Cases.{le_or_lt, eq_or_ne}
use Rattle.words.specs.Words.{word_at, words_in}
use Rattle.words.specs.Order.{Sorted}
use Rattle.words.specs.Find.{first_from}
use Rattle.words.proofs.WordsLaws.{words_length, words_at}

-- ---- the walk's two equations
first_on : (w x : ℕ) (l : List ℕ) → x < w → first_from w (x ∷ l) ≡ suc (first_from w l)
unfolding first_from
first_on w x l h = rw (lt-ltb x w h)

first_stop : (w x : ℕ) (l : List ℕ) → w ≤ x → first_from w (x ∷ l) ≡ 0
unfolding first_from
first_stop w x l h = rw (le-ltb x w h)

-- ---- the place is told by what stands before it and at it
pub first_is : (w : ℕ) (l : List ℕ) (k : ℕ) → k ≤ length l → ((p : ℕ) → p < k → get_or l p 0 < w) → (k < length l → w ≤ get_or l k 0) → first_from w l ≡ k
unfolding first_from
first_is w [] k h low high = omega arith
first_is w (x ∷ l) zero h low high = first_stop w x l (high (omega arith))
first_is w (x ∷ l) (suc k) h low high =
    first_on w x l (low 0 (omega arith)) ∙ ap suc (first_is w l k (omega arith) (λ p b. low (suc p) (omega arith)) (λ b. high (omega arith)))

pub first_most : (w : ℕ) (l : List ℕ) → first_from w l ≤ length l
unfolding first_from
first_most w [] = omega arith
first_most w (x ∷ l) = by (first_most w l) (le_or_lt w x)
  where
    by : first_from w l ≤ length l → (w ≤ x) ⊎ (x < w) → first_from w (x ∷ l) ≤ suc (length l)
    by rest t = ⊎_elim (λ (h : w ≤ x). rw (first_stop w x l h) (omega arith)) (λ (h : x < w). rw (first_on w x l h) (omega arith)) t

-- what stands before it is below w, and what stands there is not
pub first_before : (w : ℕ) (l : List ℕ) (p : ℕ) → p < first_from w l → get_or l p 0 < w
unfolding first_from
first_before w [] p h = absurd (omega arith)
first_before w (x ∷ l) p h = by (first_before w l) (le_or_lt w x) p h
  where
    later : ((p : ℕ) → p < first_from w l → get_or l p 0 < w) → x < w → (p : ℕ) → p < suc (first_from w l) → get_or (x ∷ l) p 0 < w
    later rest h zero b = h
    later rest h (suc p) b = rest p (omega arith)

    by : ((p : ℕ) → p < first_from w l → get_or l p 0 < w) → (w ≤ x) ⊎ (x < w) → (p : ℕ) → p < first_from w (x ∷ l) → get_or (x ∷ l) p 0 < w
    by rest t =
        ⊎_elim (λ (h : w ≤ x). rw (first_stop w x l h) (λ p b. absurd (omega arith))) (λ (h : x < w). rw (first_on w x l h) (later rest h)) t

pub first_there : (w : ℕ) (l : List ℕ) → first_from w l < length l → w ≤ get_or l (first_from w l) 0
unfolding first_from
first_there w [] h = absurd (omega arith)
first_there w (x ∷ l) h = by (first_there w l) (le_or_lt w x) h
  where
    by : (first_from w l < length l → w ≤ get_or l (first_from w l) 0) → (w ≤ x) ⊎ (x < w) → first_from w (x ∷ l) < suc (length l) → w ≤ get_or (x ∷ l) (first_from w (x ∷ l)) 0
    by rest t =
        ⊎_elim (λ (h : w ≤ x). rw (first_stop w x l h) (λ b. h)) (λ (h : x < w). rw (first_on w x l h) (λ b. rest (omega arith))) t

-- ---- is it there
pub find_here : (w : ℕ) (l : List ℕ) (k : ℕ) → first_from w l ≡ k → k < length l → get_or l k 0 ≡ w → is_in w l ≡ true
find_here w l k e h there = rw there at (member_at l k h)

pub find_end : (w : ℕ) (l : List ℕ) (k : ℕ) → first_from w l ≡ k → length l ≤ k → is_in w l ≡ false
find_end w l k e h = member_none w l (λ p b t. let z = first_before w l p (omega arith) in omega arith)

pub find_not : (w : ℕ) (l : List ℕ) (k : ℕ) → Sorted l → first_from w l ≡ k → k < length l → (get_or l k 0 ≡ w → ⊥) → is_in w l ≡ false
find_not w l k so e h ne =
    member_none w l
    (λ p b t.
    let there : w ≤ get_or l k 0 = rw e at (first_there w l (omega arith)) in
    ⊎_elim (λ (g : k ≤ p). let z = so.order k p g b in ne (omega arith)) (λ (g : p < k). let z = first_before w l p (omega arith) in omega arith) (le_or_lt k p))

-- either it stands at the place, or it is not there
pub find_either : (w : ℕ) (l : List ℕ) (k : ℕ) → Sorted l → first_from w l ≡ k → ((k < length l) × (get_or l k 0 ≡ w) × (is_in w l ≡ true)) ⊎ (is_in w l ≡ false)
find_either w l k so e =
    ⊎_elim (λ (h : length l ≤ k). inr (find_end w l k e h))
    (λ (h : k < length l).
    ⊎_elim (λ (t : get_or l k 0 ≡ w). inl (h, t, find_here w l k e h t)) (λ (ne : get_or l k 0 ≡ w → ⊥). inr (find_not w l k so e h ne)) (eq_or_ne (get_or l k 0) w))
    (le_or_lt (length l) k)

-- ---- the search that halves: what stands before `low` is below w, and nothing from `high` on is
pub record Bracket (w : ℕ) (l : List ℕ) (low high : ℕ) : Type 0 where
  pub order : low ≤ high
  pub inside : high ≤ length l
  pub under : (p : ℕ) → p < low → get_or l p 0 < w
  pub past : (q : ℕ) → high ≤ q → q < length l → w ≤ get_or l q 0

pub bracket_start : (w : ℕ) (l : List ℕ) (n : ℕ) → length l ≡ n → Bracket w l 0 n
bracket_start w l n e = record { order = omega arith; inside = omega arith; under = λ p h. absurd (omega arith); past = λ q h b. absurd (omega arith) }

module _ {w : ℕ} {l : List ℕ} {low high : ℕ} (so : Sorted l) (t : Bracket w l low high) (mid : ℕ) (first : low ≤ mid) (less : mid < high) where
  pub bracket_up : get_or l mid 0 < w → Bracket w l (mid + 1) high
  bracket_up h = record {
    order = omega arith;
    inside = t.inside;
    under = λ p b. let g = t.inside in let z = so.order p mid (omega arith) (omega arith) in omega arith;
    past = t.past;
  }

  pub bracket_down : w ≤ get_or l mid 0 → Bracket w l low mid
  bracket_down h = record {
    order = first;
    inside = let g = t.inside in omega arith;
    under = t.under;
    past = λ q b i. let z = so.order mid q b i in omega arith;
  }

pub bracket_end : {w : ℕ} {l : List ℕ} {low high : ℕ} → Bracket w l low high → high ≤ low → first_from w l ≡ low
bracket_end {w} {l} {low} {high} t h =
    let g = t.inside in
    let o = t.order in
    first_is w l low (omega arith) t.under (λ b. t.past low h b)

-- ---- find: one law for each way through a turn
pub find_start : (s : List ℕ) (start n w : ℕ) → Bracket w (words_in s start n) 0 n
find_start s start n w = bracket_start w (words_in s start n) n (words_length s start n)

module _ (s : List ℕ) (start n w low high x : ℕ) (so : Sorted (words_in s start n)) (t : Bracket w (words_in s start n) low high) (more : low < high)
    (is : x ≡ word_at s (start + (low + (high - low) / 2))) where
  middle : get_or (words_in s start n) (low + (high - low) / 2) 0 ≡ x
  middle = let g = t.inside in words_at s start n (low + (high - low) / 2) (omega (arith, words_length s start n)) ∙ sym is

  pub find_up : x < w → Bracket w (words_in s start n) (low + (high - low) / 2 + 1) high
  find_up h = bracket_up so t (low + (high - low) / 2) (omega arith) (omega arith) (rw middle h)

  pub find_down : w ≤ x → Bracket w (words_in s start n) low (low + (high - low) / 2)
  find_down h = bracket_down so t (low + (high - low) / 2) (omega arith) (omega arith) (rw middle h)

pub find_place : (s : List ℕ) (start n w low high : ℕ) → Bracket w (words_in s start n) low high → high ≤ low → start + low ≡ start + first_from w (words_in s start n)
find_place s start n w low high t h = ap (λ (k : ℕ). start + k) (sym (bracket_end t h))

-- ---- what find's answer r tells, and the word x read there
module _ (s : List ℕ) (start n w r : ℕ) (is : r ≡ start + first_from w (words_in s start n)) where
  pub found_end : start + n ≤ r → is_in w (words_in s start n) ≡ false
  found_end h = find_end w (words_in s start n) (first_from w (words_in s start n)) refl (omega (arith, words_length s start n))

  module _ (x : ℕ) (there : x ≡ word_at s r) (less : r < start + n) where
    word_there : get_or (words_in s start n) (first_from w (words_in s start n)) 0 ≡ x
    word_there = words_at s start n (first_from w (words_in s start n)) (omega arith) ∙ rw (← is) (sym there)

    pub found_here : x ≡ w → is_in w (words_in s start n) ≡ true
    found_here h =
        find_here w (words_in s start n) (first_from w (words_in s start n)) refl (omega (arith, words_length s start n)) (word_there ∙ h)

    pub found_not : Sorted (words_in s start n) → (x ≡ w → ⊥) → is_in w (words_in s start n) ≡ false
    found_not so ne =
        find_not w (words_in s start n) (first_from w (words_in s start n)) so refl (omega (arith, words_length s start n)) (λ e. ne (sym word_there ∙ e))
