-- Laws of decimal digits. Assumes nothing.
use Rattle.std.proofs.Common.{◌≡◌, ℕ, zero, suc, ◌+◌, ◌-◌, ◌*◌, ◌/◌, ◌%◌, ◌^◌, ◌<◌, ◌≤◌, ◌⊎◌, true, false, List, ◌∷◌, length, get_or, take, drop, set, max, sym, refl, ap, ◌∙◌, ⊎_elim, length-drop, length-take-le, get_or-drop, get_or-take, add-zero, add_assoc, mul-le-mul_right, mod-lt, mod-eq_of_lt, mul_assoc, mul_comm, div-lt_iff_lt-mul, add-mul, pow-suc, div-add-mod', add-one, arith, le-ltb, lt-ltb, le-leb, leb-true}
use native.Mathlib.Nat.{sub-zero, pow-le-pow_right, mod-one}
use native.Mathlib.Nat.{div-div-eq-div-mul, one-le-pow}
use borrow.Author.Tests.{lt-leb}
use Rattle.octets.specs.Number.{byte_at, bytes_of}
use Rattle.octets.specs.Digits.{is_digit, none, digits_from, number_at, digits_of, fewest_from, fewest}
use Rattle.octets.specs.Premises.{Number, Sure}
use Rattle.octets.specs.Area.{Has, Wrote}
use Rattle.octets.proofs.AreaLaws.{has_head, has_tail, wrote_none, wrote_as, set_sets}
use Rattle.octets.proofs.Cases.{true_or_false, le_or_lt}
use Rattle.octets.proofs.Tests.{both}

-- ---- is it a digit
digit_not : (b : ℕ) → (b < 48) ⊎ (57 < b) → is_digit b ≡ false
unfolding is_digit
digit_not b h = ⊎_elim (λ (l : b < 48). rw (lt-leb 48 b l)) (λ (g : 57 < b). rw (le-leb 48 b (omega arith), lt-leb b 57 g)) h

digit_yes : (b : ℕ) → (48 ≤ b) × (b ≤ 57) → is_digit b ≡ true
unfolding is_digit
digit_yes b h = rw (le-leb 48 b h.0, le-leb b 57 h.1)

-- ---- the walk's equations
digits_next : (n m : ℕ) (s : List ℕ) (i led : ℕ) → n ≡ suc m → is_digit (byte_at s i) ≡ true → digits_from n s i led ≡ digits_from m s (i + 1) (led * 10 + (byte_at s i - 48))
unfolding digits_from
digits_next n m s i led e is = rw (e, is)

digits_stop : (n m : ℕ) (s : List ℕ) (i led : ℕ) → n ≡ suc m → is_digit (byte_at s i) ≡ false → digits_from n s i led ≡ none
unfolding digits_from
digits_stop n m s i led e is = rw (e, is)

-- ---- get_digits: one law for each way through a turn
pub digits_start : (s : List ℕ) (at n : ℕ) → number_at s at n ≡ digits_from (n - 0) s (at + 0) 0
unfolding number_at
digits_start s at n = rw (sub-zero n, add-zero at)

-- the part of s that is read: its bytes are those of s
part_long : (s : List ℕ) (at n : ℕ) → at + n ≤ length s → length (take (at + n - at) (drop at s)) ≡ n
part_long s at n fit = let z : at + n - at ≡ n = omega arith in rw z (length-take-le n (drop at s) (rw length-drop (omega arith)))

part_byte : (s : List ℕ) (at n k : ℕ) → k < n → get_or (take (at + n - at) (drop at s)) k 0 ≡ byte_at s (at + k)
part_byte s at n k h = let less : k < at + n - at = omega arith in get_or-take (at + n - at) (drop at s) k 0 less ∙ get_or-drop at s k 0

module _ (s : List ℕ) (at n k led b : ℕ) (fit : at + n ≤ length s) (more : k < length (take (at + n - at) (drop at s)))
    (so : number_at s at n ≡ digits_from (n - k) s (at + k) led) (byte : b ≡ get_or (take (at + n - at) (drop at s)) k 0) where
  turn_more : k < n
  turn_more = omega (arith, part_long s at n fit)

  turn_byte : b ≡ byte_at s (at + k)
  turn_byte = byte ∙ part_byte s at n k turn_more

  pub turn_off : (b < 48) ⊎ (57 < b) → Number s at n none
  turn_off h =
      let less = turn_more in
      record { is = sym (so ∙ digits_stop (n - k) (n - (k + 1)) s (at + k) led (omega arith) (rw (← turn_byte) (digit_not b h))); most = omega arith }

  pub turn_on : (48 ≤ b) × (b ≤ 57) → number_at s at n ≡ digits_from (n - (k + 1)) s (at + (k + 1)) (led * 10 + (b - 48))
  turn_on h =
      so ∙ digits_next (n - k) (n - (k + 1)) s (at + k) led (let less = turn_more in omega arith) (rw (← turn_byte) (digit_yes b h))
      ∙ rw (add_assoc at k 1, turn_byte)

pub digits_end : (s : List ℕ) (at n k led : ℕ) → at + n ≤ length s → length (take (at + n - at) (drop at s)) ≤ k → k ≤ length (take (at + n - at) (drop at s))
    → led < 10 ^ k → n ≤ 9 → number_at s at n ≡ digits_from (n - k) s (at + k) led → Number s at n led
unfolding digits_from
digits_end s at n k led fit l h small nine so =
    let long = part_long s at n fit in
    let z : n - k ≡ 0 = omega arith in
    let top : 10 ^ k ≤ 10 ^ 9 = pow-le-pow_right {n = 10} (omega arith) {i = k} {j = 9} (omega arith) in
    record { is = sym (rw z at so); most = omega arith }

-- the number led stays below its power of ten
pub led_more : (k led b : ℕ) → led < 10 ^ k → b ≤ 57 → led * 10 + (b - 48) < 10 ^ (k + 1)
led_more k led b small h = rw (add-one k, pow-suc 10 k) (omega arith)

pub led_fits : (k led : ℕ) → led < 10 ^ k → k < 9 → led < 100000000
led_fits k led small h = let top : 10 ^ k ≤ 10 ^ 8 = pow-le-pow_right {n = 10} (omega arith) {i = k} {j = 8} (omega arith) in omega arith

pub turn_small : (s : List ℕ) (at n k led b : ℕ) (fit : at + n ≤ length s) (more : k < length (take (at + n - at) (drop at s)))
    (so : number_at s at n ≡ digits_from (n - k) s (at + k) led) (byte : b ≡ get_or (take (at + n - at) (drop at s)) k 0) → n ≤ 9 → led < 10 ^ k → led < 100000000
turn_small s at n k led b fit more so byte nine small = let less = turn_more s at n k led b fit more so byte in led_fits k led small (omega arith)

-- ---- sure_digits: the walk over digits that are known to be such
is_digit_lem : (b : ℕ) → is_digit b ≡ true → (48 ≤ b) × (b ≤ 57)
unfolding is_digit
is_digit_lem b h = let z = both _ _ h in (leb-true 48 b z.0, leb-true b 57 z.1)

-- the walk goes on only over a digit
pub goes_on : (n : ℕ) (s : List ℕ) (i led : ℕ) → digits_from (suc n) s i led < none
    → (48 ≤ byte_at s i) × ((byte_at s i ≤ 57) × (digits_from (suc n) s i led ≡ digits_from n s (i + 1) (led * 10 + (byte_at s i - 48))))
unfolding digits_from
goes_on n s i led h =
    ⊎_elim
    (λ (e : is_digit (byte_at s i) ≡ true). let d = is_digit_lem (byte_at s i) e in (d.0, (d.1, rw e)))
    (λ (e : is_digit (byte_at s i) ≡ false). absurd (let z : none < none = rw e at h in omega arith))
    (true_or_false (is_digit (byte_at s i)))

-- a turn of it
module _ (s : List ℕ) (at n k led b : ℕ) (sure : Sure s at n) (more : k < length (take (at + n - at) (drop at s)))
    (so : number_at s at n ≡ digits_from (n - k) s (at + k) led) (byte : b ≡ get_or (take (at + n - at) (drop at s)) k 0) where
  pub turn : (48 ≤ b) × (b ≤ 57)
  turn =
      let less = turn_more s at n k led b sure.room more so byte in
      let one : n - k ≡ suc (n - (k + 1)) = omega arith in
      let below : digits_from (suc (n - (k + 1))) s (at + k) led < none = rw (← one, ← so) sure.number in
      let d = goes_on (n - (k + 1)) s (at + k) led below in
      rw (turn_byte s at n k led b sure.room more so byte) (d.0, d.1.0)

  pub sure_small : led < 10 ^ k → led < 100000000
  sure_small small = turn_small s at n k led b sure.room more so byte sure.few small

  pub sure_more : led < 10 ^ k → led * 10 + (b - 48) < 10 ^ (k + 1)
  sure_more small = led_more k led b small turn.1

  pub sure_on : number_at s at n ≡ digits_from (n - (k + 1)) s (at + (k + 1)) (led * 10 + (b - 48))
  sure_on = turn_on s at n k led b sure.room more so byte turn

pub sure_end : (s : List ℕ) (at n k led : ℕ) → Sure s at n → length (take (at + n - at) (drop at s)) ≤ k → number_at s at n ≡ digits_from (n - k) s (at + k) led
    → (led ≡ number_at s at n) × (led < none)
unfolding digits_from
sure_end s at n k led sure past so =
    let long = part_long s at n sure.room in
    let z : n - k ≡ 0 = omega arith in
    let e : led ≡ number_at s at n = sym (rw z at so) in
    (e, rw e sure.number)

-- ---- digits written
pub digits_length : (w v : ℕ) → length (digits_of w v) ≡ w
unfolding digits_of
digits_length zero v = refl
digits_length (suc w) v = ap suc (digits_length w v)

-- ---- what is written reads back
ten_up : (P v : ℕ) → 0 < P → v % (P * 10) ≡ v / P % 10 * P + v % P
ten_up P v pos =
    let q = v / P in
    let low = mod-lt v pos in
    let sum : v ≡ (q % 10 * P + v % P) + P * 10 * (q / 10) =
    sym (div-add-mod' v P) ∙ ap (λ (x : ℕ). x * P + v % P) (sym (div-add-mod' q 10))
    ∙ rw (add-mul (q / 10 * 10) (q % 10) P, mul_comm P 10, mul_comm (q / 10) 10, mul_assoc 10 (q / 10) P, mul_assoc 10 P (q / 10), mul_comm (q / 10) P) (omega arith) in
    let step : q % 10 * P ≤ 9 * P = mul-le-mul_right P (omega arith) in
    let small : q % 10 * P + v % P < P * 10 = omega arith in
    ap (λ (x : ℕ). x % (P * 10)) sum ∙ native.Mathlib.Nat.add-mul-mod_self_left (q % 10 * P + v % P) (P * 10) (q / 10) ∙ mod-eq_of_lt small

digits_read : {s : List ℕ} {i : ℕ} (w v led : ℕ) → Has s i (digits_of w v) → digits_from w s i led ≡ led * 10 ^ w + v % 10 ^ w
unfolding digits_from digits_of
digits_read zero v led h = rw (mod-one v) (omega arith)
digits_read {s} {i} (suc w) v led h =
    let P = 10 ^ w in
    let pos : 0 < P = one-le-pow w 10 (omega arith) in
    let d = v / P % 10 in
    let byte : byte_at s i ≡ 48 + d = has_head h in
    let rest = digits_read {i = i + 1} w v (led * 10 + d) (has_tail h) in
    let is : is_digit (48 + d) ≡ true = digit_yes (48 + d) (omega arith, omega arith) in
    let less : 48 + d - 48 ≡ d = omega arith in
    rw (byte, is, less, rest, pow-suc 10 w, ten_up P v pos, add-mul (led * 10) d P, mul_comm P 10, ← mul_assoc led 10 P) (omega arith)

pub number_read : {s : List ℕ} {i : ℕ} (w v : ℕ) → v < 10 ^ w → Has s i (digits_of w v) → number_at s i w ≡ v
unfolding number_at
number_read w v small h = digits_read w v 0 h ∙ rw (mod-eq_of_lt small) (omega arith)

-- ---- the fewest digits
fewest_fuel : (f g v : ℕ) → v ≤ f → v ≤ g → fewest_from f v ≡ fewest_from g v
unfolding fewest_from
fewest_fuel zero zero v a b = refl
fewest_fuel zero (suc g) v a b = rw (lt-ltb v 10 (omega arith))
fewest_fuel (suc f) zero v a b = rw (lt-ltb v 10 (omega arith))
fewest_fuel (suc f) (suc g) v a b =
    ⊎_elim (λ (h : 10 ≤ v). rw (le-ltb v 10 h, fewest_fuel f g (v / 10) (omega arith) (omega arith)))
    (λ (h : v < 10). rw (lt-ltb v 10 h)) (le_or_lt 10 v)

pub fewest_one : (v : ℕ) → v < 10 → fewest v ≡ 1
unfolding fewest fewest_from
fewest_one zero h = refl
fewest_one (suc v) h = rw (lt-ltb (suc v) 10 h)

pub fewest_more : (v : ℕ) → 9 < v → fewest v ≡ fewest (v / 10) + 1
unfolding fewest fewest_from
fewest_more zero h = absurd (omega arith)
fewest_more (suc v) h = rw (le-ltb (suc v) 10 h, fewest_fuel v (suc v / 10) (suc v / 10) (omega arith) (omega arith))

fewest_by : (f v : ℕ) → v ≤ f → (1 ≤ fewest v) × (v < 10 ^ fewest v)
fewest_by zero v h = let z : fewest v ≡ 1 = fewest_one v (omega arith) in rw z (omega arith, omega arith)
fewest_by (suc f) v h =
    ⊎_elim (λ (m : 9 < v).
    let r = fewest_by f (v / 10) (omega arith) in
    rw (fewest_more v m, add-one (fewest (v / 10)), pow-suc 10 (fewest (v / 10))) (let small = r.1 in (omega arith, omega arith)))
    (λ (m : v < 10). rw (fewest_one v m) (omega arith, omega arith)) (⊎_elim (λ (a : 10 ≤ v). mathlib.Core.Logic.inl a) (λ (a : v < 10). mathlib.Core.Logic.inr a) (le_or_lt 10 v))

-- they suffice
pub fewest_least : (v : ℕ) → v < 10 ^ fewest v
fewest_least v = (fewest_by v v (native.Mathlib.Nat.le_refl v)).1

pub fewest_some : (v : ℕ) → 1 ≤ fewest v
fewest_some v = (fewest_by v v (native.Mathlib.Nat.le_refl v)).0

-- and no fewer do
pub fewest_most : (w v : ℕ) → v < 10 ^ (w + 1) → fewest v ≤ w + 1
fewest_most zero v h = rw (fewest_one v h) (omega arith)
fewest_most (suc w) v h =
    ⊎_elim (λ (m : 10 ≤ v).
    let top : v / 10 < 10 ^ (w + 1) = (div-lt_iff_lt-mul {k = 10} {x = v} {y = 10 ^ (w + 1)} (omega arith)).1 (rw (native.Mathlib.Nat.suc-add w 1, pow-suc 10 (w + 1)) at h) in
    let r = fewest_most w (v / 10) top in
    rw (fewest_more v m) (omega arith))
    (λ (m : v < 10). rw (fewest_one v m) (omega arith)) (le_or_lt 10 v)

-- they are one more than the power of ten in v, or in 1 for 0
pub fewest_log : (v r m : ℕ) → m ≡ max v 1 → 10 ^ r ≤ m → m < 10 * 10 ^ r → r + 1 ≡ fewest v
fewest_log v zero m e low high = sym (fewest_one v (omega arith))
fewest_log v (suc r) m e low high =
    let some : 0 < 10 ^ r = one-le-pow r 10 (omega arith) in
    let ten : 10 ≤ m = let l = rw (pow-suc 10 r) at low in omega arith in
    let same : m ≡ v = omega arith in
    let most : fewest v ≤ suc r + 1 = fewest_most (suc r) v (let h = rw (pow-suc 10 r) at high in rw (add-one (suc r), pow-suc 10 (suc r), pow-suc 10 r) (omega arith)) in
    ⊎_elim
    (λ (l : fewest v ≤ suc r).
    absurd (let top : 10 ^ fewest v ≤ 10 ^ suc r = pow-le-pow_right {n = 10} (omega arith) {i = fewest v} {j = suc r} l in omega (arith, fewest_least v)))
    (λ (l : suc r < fewest v). omega arith)
    (le_or_lt (fewest v) (suc r))

-- ---- put_digits: written from the back, so that of w digits the last w - k are written
pub digits_none : (a : List ℕ) (at w v : ℕ) → at + w ≤ length a → Wrote a (at + w) (digits_of (w - w) v) a (at + w)
unfolding digits_of
digits_none a at w v fit = let z : w - w ≡ 0 = omega arith in rw z (wrote_none a (at + w) fit)

-- the digit before those written
pub digits_more : {a b d : List ℕ} (at k w v left : ℕ) {r x : ℕ} → 0 < k → k ≤ w → left ≡ v / 10 ^ (w - k) → x ≡ 48 + left % 10
    → Wrote a (at + k) (digits_of (w - k) v) b (at + w) → Wrote b (at + (k - 1)) (bytes_of 1 x) d r → Wrote a (at + (k - 1)) (digits_of (w - (k - 1)) v) d (at + w)
unfolding digits_of bytes_of
digits_more {a} {b} {d} at k w v left {r} {x} some few is dig f g =
    let e = at + (k - 1) in
    let c = w - k in
    let up : suc e ≡ at + k = omega arith in
    let more : w - (k - 1) ≡ suc c = omega arith in
    let byte : x % 256 ≡ 48 + v / 10 ^ c % 10 = mod-eq_of_lt {n = x} {m = 256} (omega arith) ∙ rw (dig, is) in
    wrote_as {xs = (48 + v / 10 ^ c % 10) ∷ digits_of c v} (digits_of (w - (k - 1)) v) (rw more) (record {
      is = g.is ∙ ap (λ (l : List ℕ). set l e (x % 256)) f.is ∙ rw (byte, ← up) (set_sets (digits_of c v) a e (suc e) (48 + v / 10 ^ c % 10) (omega arith));
      end = rw (digits_length c v) (omega arith);
      room = f.room;
    })

pub digits_all : {a b : List ℕ} (at k w v : ℕ) → k ≤ 0 → Wrote a (at + k) (digits_of (w - k) v) b (at + w) → Wrote a at (digits_of w v) b (at + w)
digits_all {a} {b} at k w v l f =
    let z : at + k ≡ at = omega arith in
    let e : w - k ≡ w = omega arith in
    rw (z, e) at f

pub ten_less : (v w k left : ℕ) → 0 < k → k ≤ w → left ≡ v / 10 ^ (w - k) → left / 10 ≡ v / 10 ^ (w - (k - 1))
ten_less v w k left some few e = let more : w - (k - 1) ≡ suc (w - k) = omega arith in rw (e, more, pow-suc 10 (w - k), div-div-eq-div-mul)
