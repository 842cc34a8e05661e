-- Laws of a text that ends in the unit 1F, over the unit's width: its equations without fuel, its bounds, and that it depends on
-- its own bytes alone. Assumes nothing.
use Prim.Native.Nat.{ℕ, zero, suc, ◌+◌, ◌-◌, ◌≤◌, ◌<◌}
use mathlib.Core.Bool.{Bool, true, false}
use mathlib.Core.List.{List, ◌++◌}
use mathlib.Core.Path.{◌≡◌, refl, sym, ap, ◌∙◌}
use mathlib.Core.Logic.{◌⊎◌, inl, inr, ⊎_elim}
use native.Mathlib.Nat.{add-zero, add-suc}
use native.Mathlib.Omega.{arith}
use lib.ListN.{length, drop, length-append, length-drop, get_or-append}
use lib.Seq.{get_or-drop, drop-drop, drop-append-le}
use lib.Dec.{eqb}
use borrow.Author.Tests.{lt-ltb, le-ltb, eq-eqb, ne_eqb, eqb-true, eqb-false}
use Rattle.octets.specs.Number.{byte_at, num_at}
use Rattle.octets.specs.Premises.{Reads}
use Rattle.octets.proofs.Cases.{le_or_lt, eq_or_ne}
use Rattle.entries.specs.Entries.{unit_of, text_from, text_len}

-- ---- a unit of a part is that of the whole
num_drop : (w p i : ℕ) (b : List ℕ) → num_at (drop i b) p w ≡ num_at b (i + p) w
unfolding num_at
num_drop zero p i b = refl
num_drop (suc w) p i b = rw (get_or-drop i b p 0, num_drop w (suc p) i b, add-suc i p)

pub unit_drop : (w i : ℕ) (b : List ℕ) → unit_of w (drop i b) ≡ num_at b i w
unit_drop w i b = num_drop w 0 i b ∙ ap (λ (k : ℕ). num_at b k w) (add-zero i)

num_front : (w p : ℕ) (xs ys : List ℕ) → p + w ≤ length xs → num_at (xs ++ ys) p w ≡ num_at xs p w
unfolding num_at
num_front zero p xs ys h = refl
num_front (suc w) p xs ys h = rw (get_or-append xs ys 0 p (omega arith), num_front w (suc p) xs ys (omega arith))

pub unit_front : (w : ℕ) (xs ys : List ℕ) → w ≤ length xs → unit_of w (xs ++ ys) ≡ unit_of w xs
unit_front w xs ys h = num_front w 0 xs ys (omega arith)

-- ---- the three ways through a unit: too few bytes, the terminator, another unit
text_ways : (w : ℕ) (bs : List ℕ) → (length bs < w) ⊎ (((w ≤ length bs) × (unit_of w bs ≡ 31)) ⊎ ((w ≤ length bs) × (unit_of w bs ≡ 31 → ⊥)))
text_ways w bs =
    ⊎_elim
    (λ (h : w ≤ length bs). ⊎_elim (λ (e : unit_of w bs ≡ 31). inr (inl (h, e))) (λ (e : unit_of w bs ≡ 31 → ⊥). inr (inr (h, e))) (eq_or_ne (unit_of w bs) 31))
    (λ (h : length bs < w). inl h)
    (le_or_lt w (length bs))

from_short : (f w : ℕ) (bs : List ℕ) (led : ℕ) → length bs < w → text_from f w bs led ≡ 0
unfolding text_from
from_short zero w bs led h = refl
from_short (suc f) w bs led h = rw (lt-ltb (length bs) w h)

from_end : (f w : ℕ) (bs : List ℕ) (led : ℕ) → w ≤ length bs → unit_of w bs ≡ 31 → text_from (suc f) w bs led ≡ led + w
unfolding text_from
from_end f w bs led h e = rw (le-ltb (length bs) w h, eq-eqb (unit_of w bs) 31 e)

from_on : (f w : ℕ) (bs : List ℕ) (led : ℕ) → w ≤ length bs → (unit_of w bs ≡ 31 → ⊥) → text_from (suc f) w bs led ≡ text_from f w (drop w bs) (led + w)
unfolding text_from
from_on f w bs led h e = rw (le-ltb (length bs) w h, ne_eqb (unit_of w bs) 31 e)

-- any two amounts of fuel that suffice agree
text_fuel : (f g w : ℕ) (bs : List ℕ) (led : ℕ) → 1 ≤ w → length bs ≤ f → length bs ≤ g → text_from f w bs led ≡ text_from g w bs led
text_fuel zero g w bs led p hf hg = from_short zero w bs led (omega arith) ∙ sym (from_short g w bs led (omega arith))
text_fuel (suc f) zero w bs led p hf hg = from_short (suc f) w bs led (omega arith) ∙ sym (from_short zero w bs led (omega arith))
text_fuel (suc f) (suc g) w bs led p hf hg =
    ⊎_elim
    (λ (h : length bs < w). from_short (suc f) w bs led h ∙ sym (from_short (suc g) w bs led h))
    (⊎_elim
    (λ (h : (w ≤ length bs) × (unit_of w bs ≡ 31)). from_end f w bs led h.0 h.1 ∙ sym (from_end g w bs led h.0 h.1))
    (λ (h : (w ≤ length bs) × (unit_of w bs ≡ 31 → ⊥)).
    from_on f w bs led h.0 h.1
    ∙ text_fuel f g w (drop w bs) (led + w) p (rw length-drop (omega arith)) (rw length-drop (omega arith))
    ∙ sym (from_on g w bs led h.0 h.1)))
    (text_ways w bs)

-- ---- the walk's three equations; nothing after them sees fuel
pub text_none : (w : ℕ) (bs : List ℕ) (led : ℕ) → length bs < w → text_len w bs led ≡ 0
unfolding text_len
text_none w bs led h = from_short (length bs) w bs led h

pub text_end_lem : (w : ℕ) (bs : List ℕ) (led : ℕ) → 1 ≤ w → w ≤ length bs → unit_of w bs ≡ 31 → text_len w bs led ≡ led + w
unfolding text_len
text_end_lem w bs led p h e = text_fuel (length bs) (suc (length bs)) w bs led p (omega arith) (omega arith) ∙ from_end (length bs) w bs led h e

pub text_on : (w : ℕ) (bs : List ℕ) (led : ℕ) → 1 ≤ w → w ≤ length bs → (unit_of w bs ≡ 31 → ⊥) → text_len w bs led ≡ text_len w (drop w bs) (led + w)
unfolding text_len
text_on w bs led p h e =
    text_fuel (length bs) (suc (length bs)) w bs led p (omega arith) (omega arith)
    ∙ from_on (length bs) w bs led h e
    ∙ text_fuel (length bs) (length (drop w bs)) w (drop w bs) (led + w) p (rw length-drop (omega arith)) (omega arith)

-- ---- bounds: within the bytes, and a unit at least
within_by : (f w : ℕ) (bs : List ℕ) (led : ℕ) → length bs ≤ f → 1 ≤ w → text_len w bs led ≤ led + length bs
within_by zero w bs led hf p = rw (text_none w bs led (omega arith)) (omega arith)
within_by (suc f) w bs led hf p =
    ⊎_elim
    (λ (h : length bs < w). rw (text_none w bs led h) (omega arith))
    (⊎_elim
    (λ (h : (w ≤ length bs) × (unit_of w bs ≡ 31)). rw (text_end_lem w bs led p h.0 h.1) (omega arith))
    (λ (h : (w ≤ length bs) × (unit_of w bs ≡ 31 → ⊥)).
    let rest = within_by f w (drop w bs) (led + w) (rw length-drop (omega arith)) p in
    rw (text_on w bs led p h.0 h.1) (omega (arith, rest, length-drop w bs))))
    (text_ways w bs)

pub text_within : (w : ℕ) (bs : List ℕ) (led : ℕ) → 1 ≤ w → text_len w bs led ≤ led + length bs
text_within w bs led p = within_by (length bs) w bs led (omega arith) p

least_by : (f w : ℕ) (bs : List ℕ) (led : ℕ) → length bs ≤ f → 1 ≤ w → 0 < text_len w bs led → led + w ≤ text_len w bs led
least_by zero w bs led hf p = rw (text_none w bs led (omega arith)) (λ (z : 0 < 0). absurd (omega arith))
least_by (suc f) w bs led hf p =
    ⊎_elim
    (λ (h : length bs < w). rw (text_none w bs led h) (λ (z : 0 < 0). absurd (omega arith)))
    (⊎_elim
    (λ (h : (w ≤ length bs) × (unit_of w bs ≡ 31)). rw (text_end_lem w bs led p h.0 h.1) (λ (z : 0 < led + w). omega arith))
    (λ (h : (w ≤ length bs) × (unit_of w bs ≡ 31 → ⊥)).
    rw (text_on w bs led p h.0 h.1)
    (λ (z : 0 < text_len w (drop w bs) (led + w)). omega (arith, least_by f w (drop w bs) (led + w) (rw length-drop (omega arith)) p z))))
    (text_ways w bs)

pub text_least : (w : ℕ) (bs : List ℕ) (led : ℕ) → 1 ≤ w → 0 < text_len w bs led → led + w ≤ text_len w bs led
text_least w bs led p = least_by (length bs) w bs led (omega arith) p

-- ---- a text that ends in xs is that of xs with anything behind it
module _ (w : ℕ) (p : 1 ≤ w) (ys : List ℕ) where
  more_by : (f : ℕ) (xs : List ℕ) (led : ℕ) → length xs ≤ f → 0 < text_len w xs led → text_len w (xs ++ ys) led ≡ text_len w xs led
  more_by zero xs led hf = rw (text_none w xs led (omega arith)) (λ (z : 0 < 0). absurd (omega arith))
  more_by (suc f) xs led hf =
      ⊎_elim
      (λ (h : length xs < w). rw (text_none w xs led h) (λ (z : 0 < 0). absurd (omega arith)))
      (⊎_elim
      (λ (h : (w ≤ length xs) × (unit_of w xs ≡ 31)). λ (z : 0 < text_len w xs led).
      text_end_lem w (xs ++ ys) led p (rw length-append (omega arith)) (unit_front w xs ys h.0 ∙ h.1) ∙ sym (text_end_lem w xs led p h.0 h.1))
      (λ (h : (w ≤ length xs) × (unit_of w xs ≡ 31 → ⊥)).
      rw (text_on w xs led p h.0 h.1)
      (λ (z : 0 < text_len w (drop w xs) (led + w)).
      text_on w (xs ++ ys) led p (rw length-append (omega arith)) (λ (e : unit_of w (xs ++ ys) ≡ 31). h.1 (sym (unit_front w xs ys h.0) ∙ e))
      ∙ rw (drop-append-le w xs ys h.0) (more_by f (drop w xs) (led + w) (rw length-drop (omega arith)) z))))
      (text_ways w xs)

  pub text_more : (xs : List ℕ) (led : ℕ) → 0 < text_len w xs led → text_len w (xs ++ ys) led ≡ text_len w xs led
  text_more xs led = more_by (length xs) xs led (omega arith)

  front_by : (f : ℕ) (xs : List ℕ) (led : ℕ) → length xs ≤ f → 0 < text_len w (xs ++ ys) led → text_len w (xs ++ ys) led ≤ led + length xs
      → text_len w xs led ≡ text_len w (xs ++ ys) led
  front_by zero xs led hf z b = absurd (omega (arith, text_least w (xs ++ ys) led p z))
  front_by (suc f) xs led hf z b =
      ⊎_elim
      (λ (h : length xs < w). absurd (omega (arith, text_least w (xs ++ ys) led p z)))
      (⊎_elim
      (λ (h : (w ≤ length xs) × (unit_of w xs ≡ 31)).
      text_end_lem w xs led p h.0 h.1 ∙ sym (text_end_lem w (xs ++ ys) led p (rw length-append (omega arith)) (unit_front w xs ys h.0 ∙ h.1)))
      (λ (h : (w ≤ length xs) × (unit_of w xs ≡ 31 → ⊥)).
      let on : text_len w (xs ++ ys) led ≡ text_len w (drop w xs ++ ys) (led + w) =
      text_on w (xs ++ ys) led p (rw length-append (omega arith)) (λ (e : unit_of w (xs ++ ys) ≡ 31). h.1 (sym (unit_front w xs ys h.0) ∙ e))
      ∙ ap (λ (l : List ℕ). text_len w l (led + w)) (drop-append-le w xs ys h.0) in
      text_on w xs led p h.0 h.1
      ∙ front_by f (drop w xs) (led + w) (rw length-drop (omega arith)) (rw on at z) (omega (arith, length-drop w xs, on, b))
      ∙ sym on))
      (text_ways w xs)

  pub text_front : (xs : List ℕ) (led : ℕ) → 0 < text_len w (xs ++ ys) led → text_len w (xs ++ ys) led ≤ led + length xs → text_len w xs led ≡ text_len w (xs ++ ys) led
  text_front xs led z b = front_by (length xs) xs led (omega arith) z b

two : (unit : ℕ) → (unit ≡ 1 → ⊥) → 1 ≤ unit → unit ≤ 2 → unit ≡ 2
two unit other p narrow = omega arith

-- ---- whether a unit is the terminator, by its one byte or its two
pub unit_one : (b : List ℕ) (at unit r : ℕ) → unit ≡ 1 → r ≡ byte_at b at → eqb r 31 ≡ eqb (unit_of unit (drop at b)) 31
unfolding num_at
unit_one b at unit r u e = rw (u, unit_drop 1 at b, e, add-zero (byte_at b at))

pub unit_two : {b : List ℕ} {at r : ℕ} (unit : ℕ) → Reads b at 2 r → (unit ≡ 1 → ⊥) → 1 ≤ unit → unit ≤ 2 → eqb r 31 ≡ eqb (unit_of unit (drop at b)) 31
unit_two {b} {at} {r} unit read other p narrow = let u : unit ≡ 2 = two unit other p narrow in rw (u, unit_drop 2 at b, read.is)

-- ---- turns of a walk over a text: the answer from here, at i, is the answer from the start
module _ (b : List ℕ) (at from unit i : ℕ) (p : 1 ≤ unit) (so : text_len unit (drop from b) (from - at) ≡ text_len unit (drop i b) (i - at)) where
  pub turn_out : length b - i < unit → 0 ≡ text_len unit (drop from b) (from - at)
  turn_out h = sym (so ∙ text_none unit (drop i b) (i - at) (rw length-drop h))

  module _ (behind : at ≤ i) (fits : unit ≤ length b - i) (r : Bool) (told : r ≡ eqb (unit_of unit (drop i b)) 31) where
    pub turn_end : r ≡ true → i + unit - at ≡ text_len unit (drop from b) (from - at)
    turn_end h =
        let e : unit_of unit (drop i b) ≡ 31 = eqb-true (unit_of unit (drop i b)) 31 (sym told ∙ h) in
        let found = text_end_lem unit (drop i b) (i - at) p (rw length-drop fits) e in
        omega (arith, so, found)

    pub turn_on : r ≡ false → text_len unit (drop from b) (from - at) ≡ text_len unit (drop (i + unit) b) (i + unit - at)
    turn_on h =
        let more : i + unit - at ≡ i - at + unit = omega arith in
        let e : unit_of unit (drop i b) ≡ 31 → ⊥ = eqb-false (unit_of unit (drop i b)) 31 (sym told ∙ h) in
        so ∙ text_on unit (drop i b) (i - at) p (rw length-drop fits) e ∙ rw (drop-drop unit i b, more)

-- a text with nothing before it
pub text_alone : (b : List ℕ) (at unit r : ℕ) → r ≡ text_len unit (drop at b) (at - at) → r ≡ text_len unit (drop at b) 0
text_alone b at unit r e = e ∙ ap (λ (k : ℕ). text_len unit (drop at b) k) (omega arith)
