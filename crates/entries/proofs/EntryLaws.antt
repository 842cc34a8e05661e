-- Laws of one entry: its equations, its bounds, and that it depends on its own bytes alone. Assumes nothing.
use Prim.Native.Nat.{ℕ, ◌+◌, ◌-◌, ◌≤◌, ◌<◌}
use mathlib.Core.List.{List, ◌++◌}
use mathlib.Core.Path.{◌≡◌, sym, ap, ◌∙◌}
use mathlib.Core.Logic.{◌⊎◌, inl, inr, ⊎_elim}
use native.Mathlib.Omega.{arith}
use lib.ListN.{length, take, drop, length-append, length-drop, take-append-drop}
use lib.Seq.{length-take-le, drop-drop, drop-append-le}
use borrow.Author.Tests.{lt-ltb, le-ltb, eq-eqb, ne_eqb}
use Rattle.octets.proofs.Cases.{le_or_lt, eq_or_ne}
use Rattle.entries.specs.declared.Shape.{Shape}
use Rattle.entries.specs.Entries.{text_len, entry_len, Entry}
use Rattle.entries.specs.Premises.{Sound}
use Rattle.entries.proofs.TextLaws.{text_within, text_least, text_more, text_front}

-- ---- its three equations; nothing after them opens entryLen
pub entry_short : (sh : Shape) (bs : List ℕ) → length bs < sh.fixed → entry_len sh bs ≡ 0
unfolding entry_len
entry_short sh bs h = rw (lt-ltb (length bs) sh.fixed h)

pub entry_bare : (sh : Shape) (bs : List ℕ) → sh.fixed ≤ length bs → sh.unit ≡ 0 → entry_len sh bs ≡ sh.fixed
unfolding entry_len
entry_bare sh bs h u = rw (le-ltb (length bs) sh.fixed h, eq-eqb sh.unit 0 u)

pub entry_texted : (sh : Shape) (bs : List ℕ) → sh.fixed ≤ length bs → (sh.unit ≡ 0 → ⊥)
    → entry_len sh bs ≡ text_len sh.unit (drop sh.fixed bs) sh.fixed
unfolding entry_len
entry_texted sh bs h u = rw (le-ltb (length bs) sh.fixed h, ne_eqb sh.unit 0 u)

-- the three ways: too few bytes, no text, a text
entry_ways : (sh : Shape) (bs : List ℕ) → (length bs < sh.fixed) ⊎ (((sh.fixed ≤ length bs) × (sh.unit ≡ 0)) ⊎ ((sh.fixed ≤ length bs) × (sh.unit ≡ 0 → ⊥)))
entry_ways sh bs =
    ⊎_elim
    (λ (h : sh.fixed ≤ length bs). ⊎_elim (λ (e : sh.unit ≡ 0). inr (inl (h, e))) (λ (e : sh.unit ≡ 0 → ⊥). inr (inr (h, e))) (eq_or_ne sh.unit 0))
    (λ (h : length bs < sh.fixed). inl h)
    (le_or_lt sh.fixed (length bs))

some_unit : (u : ℕ) → (u ≡ 0 → ⊥) → 1 ≤ u
some_unit u h = omega arith

-- ---- bounds: an entry is within the bytes, and has its fixed bytes
pub entry_within : (sh : Shape) (bs : List ℕ) → entry_len sh bs ≤ length bs
entry_within sh bs =
    ⊎_elim
    (λ (h : length bs < sh.fixed). rw (entry_short sh bs h) (omega arith))
    (⊎_elim
    (λ (h : (sh.fixed ≤ length bs) × (sh.unit ≡ 0)). rw (entry_bare sh bs h.0 h.1) h.0)
    (λ (h : (sh.fixed ≤ length bs) × (sh.unit ≡ 0 → ⊥)).
    let most = text_within sh.unit (drop sh.fixed bs) sh.fixed (some_unit sh.unit h.1) in
    rw (entry_texted sh bs h.0 h.1) (omega (arith, most, h.0, length-drop sh.fixed bs))))
    (entry_ways sh bs)

pub entry_least : (sh : Shape) (bs : List ℕ) → 0 < entry_len sh bs → sh.fixed ≤ entry_len sh bs
entry_least sh bs =
    ⊎_elim
    (λ (h : length bs < sh.fixed). rw (entry_short sh bs h) (λ (z : 0 < 0). absurd (omega arith)))
    (⊎_elim
    (λ (h : (sh.fixed ≤ length bs) × (sh.unit ≡ 0)). rw (entry_bare sh bs h.0 h.1) (λ (z : 0 < sh.fixed). omega arith))
    (λ (h : (sh.fixed ≤ length bs) × (sh.unit ≡ 0 → ⊥)).
    rw (entry_texted sh bs h.0 h.1)
    (λ (z : 0 < text_len sh.unit (drop sh.fixed bs) sh.fixed).
    omega (arith, text_least sh.unit (drop sh.fixed bs) sh.fixed (some_unit sh.unit h.1) z))))
    (entry_ways sh bs)

-- ---- an entry is one with anything behind it, and what is cut off is an entry
module _ (sh : Shape) (xs ys : List ℕ) where
  more_long : sh.fixed ≤ length xs → sh.fixed ≤ length (xs ++ ys)
  more_long h = rw length-append (omega arith)

  more_text : sh.fixed ≤ length xs → (sh.unit ≡ 0 → ⊥) → entry_len sh (xs ++ ys) ≡ text_len sh.unit (drop sh.fixed xs ++ ys) sh.fixed
  more_text h u = entry_texted sh (xs ++ ys) (more_long h) u ∙ ap (λ (l : List ℕ). text_len sh.unit l sh.fixed) (drop-append-le sh.fixed xs ys h)

  pub entry_more : 0 < entry_len sh xs → entry_len sh (xs ++ ys) ≡ entry_len sh xs
  entry_more =
      ⊎_elim
      (λ (h : length xs < sh.fixed). rw (entry_short sh xs h) (λ (z : 0 < 0). absurd (omega arith)))
      (⊎_elim
      (λ (h : (sh.fixed ≤ length xs) × (sh.unit ≡ 0)). λ (z : 0 < entry_len sh xs).
      entry_bare sh (xs ++ ys) (more_long h.0) h.1 ∙ sym (entry_bare sh xs h.0 h.1))
      (λ (h : (sh.fixed ≤ length xs) × (sh.unit ≡ 0 → ⊥)).
      rw (entry_texted sh xs h.0 h.1)
      (λ (z : 0 < text_len sh.unit (drop sh.fixed xs) sh.fixed).
      more_text h.0 h.1 ∙ text_more sh.unit (some_unit sh.unit h.1) ys (drop sh.fixed xs) sh.fixed z)))
      (entry_ways sh xs)

  pub entry_front : 0 < entry_len sh (xs ++ ys) → entry_len sh (xs ++ ys) ≤ length xs → entry_len sh xs ≡ entry_len sh (xs ++ ys)
  entry_front z b =
      ⊎_elim
      (λ (h : length xs < sh.fixed). absurd (omega (arith, entry_least sh (xs ++ ys) z)))
      (⊎_elim
      (λ (h : (sh.fixed ≤ length xs) × (sh.unit ≡ 0)).
      entry_bare sh xs h.0 h.1 ∙ sym (entry_bare sh (xs ++ ys) (more_long h.0) h.1))
      (λ (h : (sh.fixed ≤ length xs) × (sh.unit ≡ 0 → ⊥)).
      let e = more_text h.0 h.1 in
      entry_texted sh xs h.0 h.1
      ∙ text_front sh.unit (some_unit sh.unit h.1) ys (drop sh.fixed xs) sh.fixed (rw e at z) (omega (arith, e, b, h.0, length-drop sh.fixed xs))
      ∙ sym e))
      (entry_ways sh xs)

-- an entry with anything behind it is found again
pub entry_found : {sh : Shape} {e : List ℕ} (rest : List ℕ) → Entry sh e → entry_len sh (e ++ rest) ≡ length e
entry_found {sh} {e} rest w = entry_more sh e rest (omega (arith, w.is, w.some)) ∙ w.is

-- what is cut off is an entry
pub entry_taken : (sh : Shape) (bs : List ℕ) → 0 < entry_len sh bs → Entry sh (take (entry_len sh bs) bs)
entry_taken sh bs z =
    let n = entry_len sh bs in
    let whole : take n bs ++ drop n bs ≡ bs = take-append-drop n bs in
    let size : length (take n bs) ≡ n = length-take-le n bs (entry_within sh bs) in
    let again : entry_len sh (take n bs ++ drop n bs) ≡ n = ap (λ (l : List ℕ). entry_len sh l) whole in
    record {
      is = entry_front sh (take n bs) (drop n bs) (omega (arith, again, z)) (omega (arith, again, size)) ∙ again ∙ sym size;
      some = omega (arith, size, z);
    }

-- ---- shapes without text: every byte string of the fixed length is an entry, and no other is
pub entry_fixed : {sh : Shape} {e : List ℕ} → Sound sh → sh.unit ≡ 0 → length e ≡ sh.fixed → Entry sh e
entry_fixed {sh} {e} s u long = record {
  is = entry_bare sh e (omega arith) u ∙ sym long;
  some = omega (arith, s.some, long);
}

pub fixed_long : (sh : Shape) (bs : List ℕ) → sh.unit ≡ 0 → 0 < entry_len sh bs → entry_len sh bs ≡ sh.fixed
fixed_long sh bs u z = entry_bare sh bs (omega (arith, entry_least sh bs z, entry_within sh bs)) u

-- ---- the entry at a place of the bytes, as it is measured
module _ (b : List ℕ) (at : ℕ) (sh : Shape) where
  pub len_short : length b - at < sh.fixed → 0 ≡ entry_len sh (drop at b)
  len_short h = sym (entry_short sh (drop at b) (rw length-drop h))

  pub len_bare : sh.fixed ≤ length b - at → sh.unit ≡ 0 → sh.fixed ≡ entry_len sh (drop at b)
  len_bare h u = sym (entry_bare sh (drop at b) (rw length-drop h) u)

  pub len_text : (r : ℕ) → sh.fixed ≤ length b - at → (sh.unit ≡ 0 → ⊥)
      → r ≡ text_len sh.unit (drop (at + sh.fixed) b) (at + sh.fixed - at) → r ≡ entry_len sh (drop at b)
  len_text r h u e =
      let led : at + sh.fixed - at ≡ sh.fixed = omega arith in
      e ∙ sym (entry_texted sh (drop at b) (rw length-drop h) u ∙ rw (drop-drop sh.fixed at b, led))
