-- Laws of numbers read digit by digit, one way. Assumes nothing.
use Rattle.std.proofs.Common.{◌≡◌, ℕ, zero, suc, ◌+◌, ◌-◌, ◌*◌, ◌%◌, ◌^◌, ◌<◌, ◌≤◌, Bool, true, false, cond, ◌||◌, ltb, List, sym, refl, ap, ◌∙◌, ⊎_elim, add-zero, add_assoc, mul_assoc, mul_comm, suc-add, pow-suc, zero-add, arith, ltb-false, le-leb}
use Rattle.octets.specs.Number.{byte_at}
use Rattle.octets.specs.Digits.{is_digit, none, digits_from, number_at}
use Rattle.octets.proofs.Cases.{true_or_false}
use Rattle.octets.proofs.Tests.{then_same, else_same}
use Rattle.octets.specs.Told.{DigitTold, NumberTold, FiveTold}

pub digit_so : (s : List ℕ) (i b r : ℕ) → b ≡ byte_at s i → (r + 48) % 2 ^ 32 ≡ b → DigitTold s i r
digit_so s i b r read wraps = record { told = λ few. sym read ∙ sym wraps ∙ (let e : (r + 48) % 2 ^ 32 ≡ 48 + r = omega arith in e) }

pub number_none : {s : List ℕ} {i n r : ℕ} → r ≡ none → NumberTold s i n r
number_none e = record { told = λ less. absurd (omega arith); most = omega arith }

-- ---- two flags that are off
off : (a b : Bool) → (a || b) ≡ false → (a ≡ false) × (b ≡ false)
off true b e = absurd (let z : ◌≡◌ {A = ℕ} 0 1 = cc in omega arith)
off false b e = (refl, e)

pub two_few : (a b : ℕ) → (ltb 9 a || ltb 9 b) ≡ false → (a ≤ 9) × (b ≤ 9)
two_few a b flags = let f = off (ltb 9 a) (ltb 9 b) flags in (ltb-false 9 a f.0, ltb-false 9 b f.1)

pub three_few : (a b c : ℕ) → (ltb 9 a || (ltb 9 b || ltb 9 c)) ≡ false → (a ≤ 9) × (b ≤ 9) × (c ≤ 9)
three_few a b c flags =
    let f = off (ltb 9 a) (ltb 9 b || ltb 9 c) flags in
    let g = two_few b c f.1 in
    (ltb-false 9 a f.0, g.0, g.1)

-- ---- one digit
digit_step : (n : ℕ) (s : List ℕ) (i j led a : ℕ) → i ≡ j → DigitTold s j a → ltb 9 a ≡ false → digits_from (suc n) s i led ≡ digits_from n s (i + 1) (led * 10 + a)
unfolding digits_from is_digit
digit_step n s i j led a e told few =
    let most : a ≤ 9 = ltb-false 9 a few in
    let is : byte_at s i ≡ 48 + a = rw e (told.told most) in
    let back : 48 + a - 48 ≡ a = omega arith in
    rw (is, le-leb 48 (48 + a) (omega arith), le-leb (48 + a) 57 (omega arith), back)

digit_end : (s : List ℕ) (i led : ℕ) → digits_from 0 s i led ≡ led
unfolding digits_from
digit_end s i led = refl

pub two_so : {s : List ℕ} {i a b : ℕ} → DigitTold s i a → DigitTold s (i + 1) b → (ltb 9 a || ltb 9 b) ≡ false → NumberTold s i 2 (10 * a + b)
unfolding number_at
two_so {s} {i} {a} {b} x y flags =
    let f = off (ltb 9 a) (ltb 9 b) flags in
    let p : a ≤ 9 = ltb-false 9 a f.0 in
    let q : b ≤ 9 = ltb-false 9 b f.1 in
    let all = digit_step 1 s i i 0 a refl x f.0 ∙ digit_step 0 s (i + 1) (i + 1) (0 * 10 + a) b refl y f.1 ∙ digit_end s (i + 1 + 1) ((0 * 10 + a) * 10 + b) in
    record { told = λ less. omega (arith, all); most = omega arith }

pub three_so : {s : List ℕ} {i a b c : ℕ} → DigitTold s i a → DigitTold s (i + 1) b → DigitTold s (i + 2) c → (ltb 9 a || (ltb 9 b || ltb 9 c)) ≡ false
    → NumberTold s i 3 (100 * a + (10 * b + c))
unfolding number_at
three_so {s} {i} {a} {b} {c} x y z flags =
    let f = off (ltb 9 a) (ltb 9 b || ltb 9 c) flags in
    let g = off (ltb 9 b) (ltb 9 c) f.1 in
    let p : a ≤ 9 = ltb-false 9 a f.0 in
    let q : b ≤ 9 = ltb-false 9 b g.0 in
    let r : c ≤ 9 = ltb-false 9 c g.1 in
    let all = digit_step 2 s i i 0 a refl x f.0 ∙ digit_step 1 s (i + 1) (i + 1) (0 * 10 + a) b refl y g.0
    ∙ digit_step 0 s (i + 1 + 1) (i + 2) ((0 * 10 + a) * 10 + b) c (add_assoc i 1 1) z g.1 ∙ digit_end s (i + 1 + 1 + 1) (((0 * 10 + a) * 10 + b) * 10 + c) in
    record { told = λ less. omega (arith, all); most = omega arith }

-- ---- digits behind digits
is_digit_lem : (b : ℕ) (x y led : ℕ) → cond (is_digit b) x none ≡ y → y < none → (is_digit b ≡ true) × (x ≡ y)
is_digit_lem b x y led e less =
    ⊎_elim (λ (d : is_digit b ≡ true). (d, sym (then_same (is_digit b) x none d) ∙ e))
    (λ (d : is_digit b ≡ false). absurd (let z : none ≡ y = sym (else_same (is_digit b) x none d) ∙ e in omega arith)) (true_or_false (is_digit b))

-- n digits behind m
behind : (m n : ℕ) (s : List ℕ) (i led x : ℕ) → digits_from m s i led ≡ x → x < none → digits_from (m + n) s i led ≡ digits_from n s (i + m) x
unfolding digits_from
behind zero n s i led x e less = rw (zero-add n, add-zero i, e)
behind (suc m) n s i led x e less =
    let d = is_digit_lem (byte_at s i) (digits_from m s (i + 1) (led * 10 + (byte_at s i - 48))) x led e less in
    let next : i + 1 + m ≡ i + suc m = omega arith in
    rw (suc-add m n, d.0) (behind m n s (i + 1) (led * 10 + (byte_at s i - 48)) x d.1 less ∙ rw next)

-- a number before them is multiplied by ten for each
scaled : (n : ℕ) (s : List ℕ) (j a c y : ℕ) → digits_from n s j a ≡ y → y < none → digits_from n s j (c + a) ≡ c * 10 ^ n + y
unfolding digits_from
scaled zero s j a c y e less = rw e (omega arith)
scaled (suc n) s j a c y e less =
    let b = byte_at s j in
    let d = is_digit_lem b (digits_from n s (j + 1) (a * 10 + (b - 48))) y a e less in
    let sum : (c + a) * 10 + (b - 48) ≡ c * 10 + (a * 10 + (b - 48)) = omega arith in
    rw (d.0, sum, pow-suc 10 n) (scaled n s (j + 1) (a * 10 + (b - 48)) (c * 10) y d.1 less ∙ rw (mul_assoc c 10 (10 ^ n), mul_comm 10 (10 ^ n)))

digits_join : (m n : ℕ) (s : List ℕ) (i x y : ℕ) → x ≡ number_at s i m → x < none → y ≡ number_at s (i + m) n → y < none → x * 10 ^ n + y ≡ number_at s i (m + n)
unfolding number_at
digits_join m n s i x y e f g h = sym (behind m n s i 0 x (sym e) f ∙ ap (λ (z : ℕ). digits_from n s (i + m) z) (sym (add-zero x)) ∙ scaled n s (i + m) 0 x y (sym g) h)

pub five_so : {s : List ℕ} {i a b : ℕ} → NumberTold s i 2 a → NumberTold s (i + 2) 3 b → FiveTold s i (1000 * a + b)
five_so {s} {i} {a} {b} x y =
    let m = x.most in
    let n = y.most in
    record {
      told = λ few. let all = digits_join 2 3 s i a b (x.told (omega arith)) (omega arith) (y.told (omega arith)) (omega arith) in omega (arith, all);
      most = omega arith;
    }
