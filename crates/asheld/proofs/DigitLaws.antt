-- Digits that are known to be such: written as they stand, and no fewer would do. Assumes nothing.
use Prim.Native.Nat.{ℕ, zero, suc, ◌+◌, ◌-◌, ◌*◌, ◌/◌, ◌%◌, ◌^◌, ◌≤◌, ◌<◌}
use mathlib.Core.List.{List}
use mathlib.Core.Logic.{⊎_elim}
use mathlib.Core.Path.{◌≡◌, refl, ap, ◌∙◌}
use native.Mathlib.Nat.{pow-suc, pow-le-pow_right, mul-le-mul_right, div-add-mod', mod-lt, div-div-eq-div-mul, one-le-pow, div-mul-le_self}
use native.Mathlib.Numerals.{add-one}
use native.Mathlib.Omega.{arith}
use lib.ListN.{length, take, drop}
use Rattle.octets.specs.Number.{byte_at}
use Rattle.octets.specs.Digits.{none, digits_from, number_at, digits_of, fewest}
use Rattle.octets.specs.Premises.{Sure}
use Rattle.octets.proofs.Cases.{le_or_lt}
use Rattle.octets.proofs.DigitsLaws.{goes_on, fewest_least, fewest_most}
use Rattle.asheld.proofs.PartLaws.{part_more}

-- ---- what is read is written back
back : (n : ℕ) (s : List ℕ) (i led : ℕ) → i + n ≤ length s → digits_from n s i led < none
    → (digits_of n (digits_from n s i led) ≡ take n (drop i s)) × (digits_from n s i led / 10 ^ n ≡ led)
unfolding digits_from digits_of
back zero s i led room h = (refl, omega arith)
back (suc n) s i led room h =
    let d = goes_on n s i led h in
    let b = byte_at s i in
    let low = d.0 in
    let high = d.1.0 in
    let v = digits_from n s (i + 1) (led * 10 + (b - 48)) in
    let e : digits_from (suc n) s i led ≡ v = d.1.1 in
    let more = back n s (i + 1) (led * 10 + (b - 48)) (omega arith) (rw (← e) h) in
    let quotient : v / 10 ^ n ≡ led * 10 + (b - 48) = more.1 in
    let digit : 48 + v / 10 ^ n % 10 ≡ b = rw quotient (omega arith) in
    let lead : v / 10 ^ suc n ≡ led = rw (pow-suc 10 n, ← (div-div-eq-div-mul v (10 ^ n) 10), quotient) (omega arith) in
    (ap (λ (x : ℕ). digits_of (suc n) x) e ∙ rw (digit, more.0) (part_more s i (i + 1) n b refl refl (omega arith)), ap (λ (x : ℕ). x / 10 ^ suc n) e ∙ lead)

module _ {s : List ℕ} {i n : ℕ} (sure : Sure s i n) where
  pub digits_back : digits_of n (number_at s i n) ≡ take n (drop i s)
  unfolding number_at
  digits_back = (back n s i 0 sure.room sure.number).0

  pub number_below : number_at s i n < 10 ^ n
  unfolding number_at
  number_below =
      let v = digits_from n s i 0 in
      let q : v / 10 ^ n ≡ 0 = (back n s i 0 sure.room sure.number).1 in
      let some : 0 < 10 ^ n = one-le-pow n 10 (omega arith) in
      let sum : 0 * 10 ^ n + v % 10 ^ n ≡ v = rw q at (div-add-mod' v (10 ^ n)) in
      omega (arith, mod-lt v {m = 10 ^ n} some)

-- a first digit that isn't 0
pub number_high : {s : List ℕ} {i : ℕ} (n : ℕ) → 1 ≤ n → Sure s i n → (byte_at s i ≡ 48 → ⊥) → 10 ^ (n - 1) ≤ number_at s i n
unfolding number_at
number_high zero some sure ne = absurd (omega arith)
number_high {s} {i} (suc n) some sure ne =
    let d = goes_on n s i 0 sure.number in
    let b = byte_at s i in
    let low = d.0 in
    let v = digits_from n s (i + 1) (0 * 10 + (b - 48)) in
    let e : digits_from (suc n) s i 0 ≡ v = d.1.1 in
    let room = sure.room in
    let q : v / 10 ^ n ≡ 0 * 10 + (b - 48) = (back n s (i + 1) (0 * 10 + (b - 48)) (omega arith) (rw (← e) sure.number)).1 in
    let one : 1 ≤ v / 10 ^ n = rw q (omega (arith, ne)) in
    let times : 1 * 10 ^ n ≤ v / 10 ^ n * 10 ^ n = mul-le-mul_right (10 ^ n) one in
    let less : suc n - 1 ≡ n = omega arith in
    rw (e, less) (omega (arith, div-mul-le_self v (10 ^ n)))

-- ---- the fewest digits
pub fewest_is : (n v : ℕ) → 1 ≤ n → 10 ^ (n - 1) ≤ v → v < 10 ^ n → fewest v ≡ n
fewest_is zero v some low high = absurd (omega arith)
fewest_is (suc w) v some low high =
    let less : suc w - 1 ≡ w = omega arith in
    let least : 10 ^ w ≤ v = rw less at low in
    ⊎_elim
    (λ (h : fewest v ≤ w). absurd (let top : 10 ^ fewest v ≤ 10 ^ w = pow-le-pow_right {n = 10} (omega arith) {i = fewest v} {j = w} h in omega (arith, fewest_least v)))
    (λ (h : w < fewest v). omega (arith, fewest_most w v (rw (add-one w) high)))
    (le_or_lt (fewest v) w)
