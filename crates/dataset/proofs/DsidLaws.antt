-- Laws of DSID: its names, turn by turn, and that its subfields fill it. Assumes nothing.
use Prim.Native.Nat.{ℕ, suc, ◌+◌, ◌-◌, ◌≤◌, ◌<◌}
use mathlib.Core.Bool.{Bool, true, false, not, ◌&&◌}
use mathlib.Core.List.{List, [], ◌∷◌}
use mathlib.Core.Logic.{⊎_elim}
use mathlib.Core.Path.{◌≡◌, refl, sym, ap, ◌∙◌}
use native.Mathlib.Numerals.{add-one}
use native.Mathlib.Nat.{add-zero, sub-zero, add_assoc}
use native.Mathlib.Omega.{arith}
use lib.ListN.{length, take, drop, length-drop}
use lib.Seq.{drop-cons, length-take-le}
use lib.Pointwise.{pointwise, pointwise_long}
use lib.Dec.{leb, eqb}
use borrow.Author.Tests.{eqb-true, eq-eqb, ne_eqb, not-true}
use Rattle.octets.specs.Number.{byte_at}
use Rattle.octets.specs.Digits.{is_digit}
use Rattle.octets.specs.Premises.{Number}
use Rattle.octets.proofs.Tests.{told_no, told_yes}
use Rattle.octets.proofs.Cases.{true_or_false, eq_or_ne}
use Rattle.values.specs.Rule.{digits_within}
use Rattle.dataset.specs.Dsid.{is_code, codes_at, updn_digits, updn_good, sted_good, pred_good, dsid_ends, dsid_laid, dsnm_end, edtn_end, updn_end, psdn_end, pred_end, comt_end}
use Rattle.dataset.specs.Premises.{DsidLaid, Filled}
use Rattle.dataset.specs.declared.Ends.{Ends}
use Rattle.headvalues.proofs.TextLaws.{end_from, end_within}

-- ---- is_code: a letter, or else a digit
module _ (b : ℕ) (q : Bool) (letter : q ≡ (leb 65 b && leb b 90)) where
  pub code_letter : q ≡ true → q ≡ is_code b
  unfolding is_code
  code_letter h = rw (← letter, h)

  pub code_other : q ≡ false → (r : Bool) → r ≡ (leb 48 b && leb b 57) → r ≡ is_code b
  unfolding is_code is_digit
  code_other h r digit = rw (← letter, h) digit

-- ---- codes_at: one law for each way through a turn
pub codes_start : (n : ℕ) (s : List ℕ) (at : ℕ) → codes_at n s at ≡ codes_at (n - 0) s (at + 0)
codes_start n s at = rw (sub-zero n, add-zero at)

codes_step : (n m : ℕ) (s : List ℕ) (i : ℕ) → n ≡ suc m → codes_at n s i ≡ (is_code (byte_at s i) && codes_at m s (i + 1))
unfolding codes_at
codes_step n m s i e = rw e

module _ (n : ℕ) (s : List ℕ) (at k : ℕ) (r : Bool) (so : codes_at n s at ≡ codes_at (n - k) s (at + k)) (more : k < n) (told : r ≡ is_code (byte_at s (at + k))) where
  pub codes_no : not r ≡ true → false ≡ codes_at n s at
  codes_no h =
      sym (so ∙ codes_step (n - k) (n - (k + 1)) s (at + k) (omega arith) ∙ rw (told_no r (is_code (byte_at s (at + k))) told h))

  pub codes_on : not r ≡ false → codes_at n s at ≡ codes_at (n - (k + 1)) s (at + (k + 1))
  codes_on h =
      so ∙ codes_step (n - k) (n - (k + 1)) s (at + k) (omega arith)
      ∙ rw (told_yes r (is_code (byte_at s (at + k))) told h, add_assoc at k 1)

pub codes_done : (n : ℕ) (s : List ℕ) (at k : ℕ) → codes_at n s at ≡ codes_at (n - k) s (at + k) → n ≤ k → true ≡ codes_at n s at
unfolding codes_at
codes_done n s at k so h = let z : n - k ≡ 0 = omega arith in sym (so ∙ rw z)

-- ---- updn_good
module _ (update : Bool) (s : List ℕ) (i e : ℕ) (r : Bool) where
  pub updn_cell : not update ≡ true → r ≡ digits_within 3 0 999 s i e → r ≡ updn_good update s i e
  unfolding updn_good updn_digits
  updn_cell told is = rw (not-true update told, ← is) (and_same r)
    where
      and_same : (b : Bool) → b ≡ (b && true)
      and_same true = refl
      and_same false = refl

  pub updn_bad : update ≡ true → r ≡ digits_within 3 1 999 s i e → r ≡ false → r ≡ updn_good update s i e
  unfolding updn_good updn_digits
  updn_bad told is h = rw (told, ← is, h)

  pub updn_same : (a b : ℕ) → update ≡ true → r ≡ digits_within 3 1 999 s i e → r ≡ true → Number s 16 3 a → Number s i (e - i) b → eqb a b ≡ updn_good update s i e
  unfolding updn_good updn_digits
  updn_same a b told is h first second = rw (told, ← is, h, first.is, second.is)

-- ---- the subfields fill the field
pub dsid_is_laid : (s : List ℕ) → dsid_laid s ≡ true → DsidLaid s
unfolding dsid_laid dsid_ends
dsid_is_laid s h = record {
  names = end_from s 7;
  edition = let f = end_from s (dsnm_end s + 1) in omega arith;
  number = let f = end_from s (edtn_end s + 1) in omega arith;
  issue = end_from s (updn_end s + 22);
  product = let f = end_from s (psdn_end s + 1) in omega arith;
  comment = end_from s (pred_end s + 4);
  full = eqb-true (comt_end s + 1) (length s) h;
}

pub laid_dsid : (s : List ℕ) → DsidLaid s → dsid_laid s ≡ true
unfolding dsid_laid dsid_ends
laid_dsid s h = eq-eqb (comt_end s + 1) (length s) h.full

-- ---- dsid_laid: the last end, whether or not the subfields fill the field
pub ends_near : (s : List ℕ) (e : Ends) → e ≡ dsid_ends s → e.comt ≤ length s + 37
unfolding dsid_ends
ends_near s e is =
    rw is (omega (
      arith,
      end_within s 7,
      end_within s (dsnm_end s + 1),
      end_within s (edtn_end s + 1),
      end_within s (updn_end s + 22),
      end_within s (psdn_end s + 1),
      end_within s (pred_end s + 4),
    ))

pub ends_laid : (s : List ℕ) (e : Ends) → e ≡ dsid_ends s → eqb (e.comt + 1) (length s) ≡ dsid_laid s
unfolding dsid_laid dsid_ends
ends_laid s e is = rw is

-- the ends in hand are those of the field
pub ends_filled : (s : List ℕ) (e : Ends) → e ≡ dsid_ends s → DsidLaid s → Filled s e
ends_filled s e is laid = rw is laid

-- ---- a fixed text, byte by byte
and_true : (r : Bool) → (r && true) ≡ r
and_true true = refl
and_true false = refl

text_on : (s : List ℕ) (i n x : ℕ) (xs : List ℕ) → i < length s
    → pointwise eqb (take (suc n) (drop i s)) (x ∷ xs) ≡ (eqb (byte_at s i) x && pointwise eqb (take n (drop (i + 1) s)) xs)
text_on s i n x xs h = rw (drop-cons s i 0 h, add-one i)

text_last : (s : List ℕ) (i x : ℕ) → i < length s → pointwise eqb (take 1 (drop i s)) (x ∷ []) ≡ eqb (byte_at s i) x
text_last s i x h = text_on s i 0 x [] h ∙ and_true (eqb (byte_at s i) x)

pub sted_text : (s : List ℕ) (at : ℕ) (xs : List ℕ) (r : Bool) → at + 4 ≤ length s → xs ≡ (48 ∷ 51 ∷ 46 ∷ 49 ∷ [])
    → r ≡ pointwise eqb (take (at + 4 - at) (drop at s)) xs → r ≡ sted_good s at
unfolding sted_good
sted_text s at xs r fit is e =
    let n : at + 4 - at ≡ 4 = omega arith in
    e ∙ rw (
      is,
      n,
      text_on s at 3 48 (51 ∷ 46 ∷ 49 ∷ []) (omega arith),
      text_on s (at + 1) 2 51 (46 ∷ 49 ∷ []) (omega arith),
      add_assoc at 1 1,
      text_on s (at + 2) 1 46 (49 ∷ []) (omega arith),
      add_assoc at 2 1,
      text_last s (at + 3) 49 (omega arith),
    )

pub pred_text : (s : List ℕ) (from to : ℕ) (xs : List ℕ) (r : Bool) → from ≤ to → to ≤ length s → xs ≡ (50 ∷ 46 ∷ 48 ∷ []) → r ≡ pointwise eqb (take (to - from) (drop from s)) xs
    → r ≡ pred_good s from to
unfolding pred_good
pred_text s from to xs r order fit is e =
    let size : length (take (to - from) (drop from s)) ≡ to - from = length-take-le (to - from) (drop from s) (rw length-drop (omega arith)) in
    ⊎_elim
    (λ (h : to ≡ from + 3).
    let n : to - from ≡ 3 = omega arith in
    e ∙ rw (
      is,
      n,
      eq-eqb to (from + 3) h,
      text_on s from 2 50 (46 ∷ 48 ∷ []) (omega arith),
      text_on s (from + 1) 1 46 (48 ∷ []) (omega arith),
      add_assoc from 1 1,
      text_last s (from + 2) 48 (omega arith),
    ))
    (λ (h : to ≡ from + 3 → ⊥).
    ⊎_elim
    (λ (y : r ≡ true). absurd (h (let long = pointwise_long eqb (take (to - from) (drop from s)) xs (sym e ∙ y) in omega (arith, ap length is))))
    (λ (z : r ≡ false). z ∙ rw (ne_eqb to (from + 3) h))
    (true_or_false r))
    (eq_or_ne to (from + 3))
