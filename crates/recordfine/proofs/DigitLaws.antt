-- Laws of numbers of few digits, and of leading zeros. Assumes nothing.
use Prim.Native.Nat.{ℕ, suc, ◌+◌, ◌-◌, ◌*◌, ◌/◌, ◌%◌, ◌≤◌, ◌<◌}
use mathlib.Core.List.{List}
use mathlib.Core.Path.{◌≡◌, ap, ◌∙◌}
use native.Mathlib.Numerals.{add-one}
use native.Mathlib.Nat.{add_assoc}
use native.Mathlib.Omega.{arith}
use borrow.Author.Tests.{le-leb}
use Rattle.octets.specs.Number.{byte_at, num_at}
use Rattle.octets.specs.Digits.{is_digit, digits_from, number_at}
use Rattle.octets.specs.Premises.{Number, Reads}
use Rattle.octets.specs.Told.{FiveTold}

pub zero_first : (n : ℕ) (s : List ℕ) (i : ℕ) → byte_at s i ≡ 48 → number_at s i (suc n) ≡ number_at s (i + 1) n
unfolding number_at digits_from is_digit
zero_first n s i e = rw e

pub one_digit : (s : List ℕ) (i v : ℕ) → byte_at s i ≡ 48 + v → v ≤ 9 → number_at s i 1 ≡ v
unfolding number_at digits_from is_digit
one_digit s i v e few =
    let back : 48 + v - 48 ≡ v = omega arith in
    rw (e, le-leb 48 (48 + v) (omega arith), le-leb (48 + v) 57 (omega arith), back) (omega arith)

pub two_digits : (s : List ℕ) (i v r : ℕ) → ((k : ℕ) → byte_at s k < 256) → v ≤ 99 → Reads s i 2 r → r ≡ 12336 + v / 10 + 256 * (v % 10) → number_at s i 2 ≡ v
unfolding num_at number_at digits_from is_digit
two_digits s i v r below few read e =
    let is : r ≡ byte_at s i + 256 * (byte_at s (suc i) + 256 * 0) = read.is in
    let next : byte_at s (i + 1) ≡ byte_at s (suc i) = ap (λ (k : ℕ). byte_at s k) (add-one i) in
    let a : byte_at s i ≡ 48 + v / 10 = omega (arith, below i, below (i + 1)) in
    let b : byte_at s (i + 1) ≡ 48 + v % 10 = omega (arith, below i, below (i + 1)) in
    rw (
      a,
      le-leb 48 (48 + v / 10) (omega arith),
      le-leb (48 + v / 10) 57 (omega arith),
      b,
      le-leb 48 (48 + v % 10) (omega arith),
      le-leb (48 + v % 10) 57 (omega arith),
    )
    (omega arith)

-- ---- five digits of which the first two are zeros
pub five_small : {s : List ℕ} {i r : ℕ} (q : ℕ) → ((k : ℕ) → byte_at s k < 256) → Reads s i 2 q → q ≡ 12336 → Number s (i + 2) 3 r → FiveTold s i r
unfolding num_at
five_small {s} {i} {r} q below read e told =
    let is : q ≡ byte_at s i + 256 * (byte_at s (suc i) + 256 * 0) = read.is in
    let next : byte_at s (i + 1) ≡ byte_at s (suc i) = ap (λ (k : ℕ). byte_at s k) (add-one i) in
    let a : byte_at s i ≡ 48 = omega (arith, below i, below (i + 1)) in
    let b : byte_at s (i + 1) ≡ 48 = omega (arith, below i, below (i + 1)) in
    let all : number_at s i 5 ≡ number_at s (i + 2) 3 = zero_first 4 s i a ∙ zero_first 3 s (i + 1) b ∙ ap (λ (k : ℕ). number_at s k 3) (add_assoc i 1 1) in
    let most = told.most in
    record { told = λ few. rw all told.is; most = omega arith }
