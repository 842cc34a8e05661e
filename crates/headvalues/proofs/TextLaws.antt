-- Laws of text: its walk, turn by turn, and where it ends. Assumes nothing.
use Prim.Native.Nat.{ℕ, ◌+◌, ◌≤◌, ◌<◌, max}
use mathlib.Core.Bool.{Bool, true, false, not, ◌&&◌}
use mathlib.Core.List.{List, [], ◌∷◌, ◌++◌}
use mathlib.Core.Path.{◌≡◌, refl, sym, ◌∙◌}
use mathlib.Core.Logic.{⊎_elim}
use native.Mathlib.Nat.{add-zero}
use native.Mathlib.Numerals.{add-one}
use native.Mathlib.Omega.{arith}
use lib.ListN.{length, drop, drop_of_length-le, length-drop}
use lib.Seq.{drop-cons}
use borrow.Author.Tests.{lt-leb, le-leb, eq-eqb, ne_eqb}
use Rattle.octets.specs.Number.{byte_at}
use Rattle.octets.specs.Area.{Has}
use Rattle.octets.proofs.AreaLaws.{has_head, has_tail}
use Rattle.octets.proofs.Cases.{eq_or_ne}
use Rattle.octets.proofs.Tests.{told_no, told_yes, both}
use Rattle.headvalues.specs.Text.{is_text, text_good, until_end, text_end}

-- ---- is_text, by the ranges of bytes
no_high : (high : Bool) → false ≡ (high && false)
no_high true = refl
no_high false = refl

pub text_low : (high : Bool) (b : ℕ) → b < 32 → false ≡ is_text high b
unfolding is_text
text_low high b h = rw (lt-leb 32 b h, lt-leb 160 b (omega arith)) (no_high high)

pub text_plain : (high : Bool) (b : ℕ) → 32 ≤ b → b ≤ 126 → true ≡ is_text high b
unfolding is_text
text_plain high b l h = rw (le-leb 32 b l, le-leb b 126 h)

pub text_between : (high : Bool) (b : ℕ) → 126 < b → b < 160 → false ≡ is_text high b
unfolding is_text
text_between high b l h = rw (le-leb 32 b (omega arith), lt-leb b 126 l, lt-leb 160 b h) (no_high high)

pub text_high : (high : Bool) (b : ℕ) → 160 ≤ b → b < 256 → high ≡ is_text high b
unfolding is_text
text_high high b l h = rw (le-leb 32 b (omega arith), lt-leb b 126 (omega arith), le-leb 160 b l, le-leb b 255 (omega arith)) (as_high high)
  where
    as_high : (high : Bool) → high ≡ (high && true)
    as_high true = refl
    as_high false = refl

-- ---- text_good: one law for each way through a turn
text_step : (high : Bool) (s : List ℕ) (i : ℕ) → i < length s → text_good high (drop i s) ≡ (is_text high (byte_at s i) && text_good high (drop (i + 1) s))
unfolding text_good
text_step high s i h = rw (drop-cons s i 0 h, add-one i)

module _ (high : Bool) (s : List ℕ) (i : ℕ) (r : Bool) (so : text_good high s ≡ text_good high (drop i s)) (more : i < length s) (told : r ≡ is_text high (byte_at s i)) where
  pub text_no : not r ≡ true → false ≡ text_good high s
  text_no h = sym (so ∙ text_step high s i more ∙ rw (told_no r (is_text high (byte_at s i)) told h))

  pub text_on : not r ≡ false → text_good high s ≡ text_good high (drop (i + 1) s)
  text_on h = so ∙ text_step high s i more ∙ rw (told_yes r (is_text high (byte_at s i)) told h)

pub text_done : (high : Bool) (s : List ℕ) (i : ℕ) → text_good high s ≡ text_good high (drop i s) → length s ≤ i → true ≡ text_good high s
unfolding text_good
text_done high s i so h = sym (so ∙ rw (drop_of_length-le s {i = i} h))

-- ---- text_end: one law for each way through a turn
module _ (s : List ℕ) (from i : ℕ) (so : text_end s from ≡ text_end s i) where
  pub end_past : length s ≤ i → {m : ℕ} → m ≡ i → m ≡ text_end s from
  unfolding text_end until_end
  end_past h same = same ∙ sym (so ∙ rw (drop_of_length-le s {i = i} h) (add-zero i))

  pub end_here : i < length s → byte_at s i ≡ 31 → i ≡ text_end s from
  unfolding text_end until_end
  end_here more h = sym (so ∙ rw (drop-cons s i 0 more, eq-eqb (byte_at s i) 31 h) (add-zero i))

  pub end_on : i < length s → (byte_at s i ≡ 31 → ⊥) → text_end s from ≡ text_end s (i + 1)
  unfolding text_end until_end
  end_on more h = so ∙ rw (drop-cons s i 0 more, ne_eqb (byte_at s i) 31 h, add-one i) (omega arith)

-- a text does not end before it begins
pub end_from : (s : List ℕ) (i : ℕ) → i ≤ text_end s i
unfolding text_end
end_from s i = omega arith

-- nor beyond the bytes there are
until_few : (s : List ℕ) → until_end s ≤ length s
unfolding until_end
until_few [] = omega arith
until_few (b ∷ bs) =
    let few = until_few bs in
    ⊎_elim (λ (h : b ≡ 31). rw (eq-eqb b 31 h) (omega arith)) (λ (h : b ≡ 31 → ⊥). rw (ne_eqb b 31 h) (omega arith)) (eq_or_ne b 31)

pub end_within : (s : List ℕ) (i : ℕ) → text_end s i ≤ max i (length s)
unfolding text_end
end_within s i = omega (arith, until_few (drop i s), length-drop i s)

-- ---- what is written reads back: a text ends at the 1F behind it
no_end : (high : Bool) (b : ℕ) → is_text high b ≡ true → b ≡ 31 → ⊥
no_end high b h e =
    let n : false ≡ is_text high b = text_low high b (omega arith) in
    let z : ◌≡◌ {A = ℕ} 0 1 = cc in
    omega arith

pub end_read : {s : List ℕ} {i : ℕ} (high : Bool) (t : List ℕ) → text_good high t ≡ true → Has s i (t ++ (31 ∷ [])) → text_end s i ≡ i + length t
unfolding text_good
end_read {s} {i} high [] good h = let room = h.room in sym (end_here s i i refl (omega arith) (has_head h)) ∙ omega arith
end_read {s} {i} high (b ∷ t) good h =
    let g = both (is_text high b) (text_good high t) good in
    let byte : byte_at s i ≡ b = has_head h in
    let other : byte_at s i ≡ 31 → ⊥ = λ (e : byte_at s i ≡ 31). no_end high b g.0 (sym byte ∙ e) in
    let room = h.room in
    end_on s i i refl (omega arith) other ∙ end_read {i = i + 1} high t g.1 (has_tail h) ∙ omega arith
