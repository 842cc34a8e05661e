-- Laws of numbers in bytes, over the width: two numbers side by side are one of both widths, read (`reads_join`) and written
-- (`bytes_join`); what is written reads back (`num_read`). Assumes nothing.
use Rattle.std.proofs.Common.{◌≡◌, ℕ, zero, suc, ◌+◌, ◌*◌, ◌/◌, ◌%◌, ◌^◌, ◌<◌, ◌≤◌, List, ◌++◌, length, set, sym, refl, ap, ◌∙◌, append-nil, add-zero, add_assoc, add-suc, mod-lt, mod-eq_of_lt, mul_assoc, div-lt_iff_lt-mul, suc-add, mul-le-mul_left, pow-suc, zero-add, mul-add, div-one, add-one, arith}
use native.Mathlib.Nat.{pow-succ', div-div-eq-div-mul, mod-add-div}
use native.Mathlib.Nat.{add-mul-mod_self_left, add-mul-div_left, div-eq_of_lt, one-le-pow}
use Rattle.octets.specs.Number.{byte_at, num_at, bytes_of}
use Rattle.octets.specs.Premises.{Reads}
use Rattle.octets.specs.Area.{Has, Wrote}
use Rattle.octets.proofs.AreaLaws.{has_head, has_tail, wrote_as, wrote_join}

-- ---- reading
num_join : (s : List ℕ) (p m n : ℕ) → num_at s p (m + n) ≡ num_at s p m + 256 ^ m * num_at s (p + m) n
unfolding num_at
num_join s p zero n = rw (zero-add n, add-zero p) (omega arith)
num_join s p (suc m) n =
    let rest = num_join s (suc p) m n in
    rw (suc-add m n, rest, pow-succ' 256 m, mul-add, mul_assoc, add_assoc, add-suc p m, suc-add p m)

-- a number below a power of the low part's width, on top of the low part
join_small : (a b P Q : ℕ) → a < P → b < Q → a + P * b < P * Q
join_small a b P Q ha hb = let h : P * (b + 1) ≤ P * Q = mul-le-mul_left P (omega arith) in omega (arith, h, mul-add P b 1)

pub reads_join : {s : List ℕ} {p a b : ℕ} (m n : ℕ) → Reads s p m a → Reads s (p + m) n b → Reads s p (m + n) (a + 256 ^ m * b)
reads_join {s} {p} {a} {b} m n f g = record {
  is = rw (num_join s p m n, ← f.is, ← g.is);
  small = rw (lib.Pow.pow-add 256 m n) (join_small a b (256 ^ m) (256 ^ n) f.small g.small);
}

pub reads_one : {s : List ℕ} {p b : ℕ} → b ≡ byte_at s p → b < 256 → Reads s p 1 b
unfolding num_at
reads_one e h = record { is = rw e (omega arith); small = h }

-- ---- writing
pub bytes_length : (n v : ℕ) → length (bytes_of n v) ≡ n
unfolding bytes_of
bytes_length zero v = refl
bytes_length (suc n) v = ap suc (bytes_length n (v / 256))

-- the low part and the high part of a number's remainder
mod_parts : (a b v : ℕ) → 0 < a → 0 < b → v % (a * b) ≡ v % a + a * (v / a % b)
mod_parts a b v pa pb =
    let q = v / a in
    let low = mod-lt v pa in
    let high = mod-lt q pb in
    let small : v % a + a * (q % b) < a * b = join_small (v % a) (q % b) a b low high in
    let whole : v ≡ (v % a + a * (q % b)) + a * b * (q / b) = sym (mod-add-div v a) ∙ ap (λ (x : ℕ). v % a + a * x) (sym (mod-add-div q b))
    ∙ rw (mul-add a, add_assoc, mul_assoc) in
    ap (λ (x : ℕ). x % (a * b)) whole ∙ add-mul-mod_self_left (v % a + a * (q % b)) (a * b) (q / b) ∙ mod-eq_of_lt small

mod_low : (a b v : ℕ) → 0 < a → 0 < b → v % (a * b) % a ≡ v % a
mod_low a b v pa pb = ap (λ (x : ℕ). x % a) (mod_parts a b v pa pb) ∙ add-mul-mod_self_left (v % a) a (v / a % b) ∙ mod-eq_of_lt (mod-lt v pa)

mod_high : (a b v : ℕ) → 0 < a → 0 < b → v % (a * b) / a ≡ v / a % b
mod_high a b v pa pb =
    ap (λ (x : ℕ). x / a) (mod_parts a b v pa pb) ∙ add-mul-div_left (v % a) (v / a % b) pa
    ∙ rw (div-eq_of_lt (mod-lt v pa)) (zero-add (v / a % b))

pub bytes_join : (m n v : ℕ) → bytes_of m (v % 256 ^ m) ++ bytes_of n (v / 256 ^ m) ≡ bytes_of (m + n) v
unfolding bytes_of
bytes_join zero n v = rw (zero-add n, div-one v)
bytes_join (suc m) n v =
    let P = 256 ^ m in
    let pos : 0 < P = one-le-pow m 256 (omega arith) in
    rw (suc-add m n, pow-succ' 256 m, mod_low 256 P v (omega arith) pos, mod_high 256 P v (omega arith) pos, ← div-div-eq-div-mul v 256 P, bytes_join m n (v / 256))

-- what of a number does not fit is lost
pub bytes_low : (n v : ℕ) → bytes_of n (v % 256 ^ n) ≡ bytes_of n v
unfolding bytes_of
bytes_low n v = sym (append-nil (bytes_of n (v % 256 ^ n))) ∙ bytes_join n 0 v ∙ ap (λ (k : ℕ). bytes_of k v) (add-zero n)

-- ---- what is written reads back
pub num_read : {s : List ℕ} {i : ℕ} (n v : ℕ) → v < 256 ^ n → Has s i (bytes_of n v) → num_at s i n ≡ v
unfolding num_at bytes_of
num_read zero v small h = omega arith
num_read {s} {i} (suc n) v small h =
    let top : v / 256 < 256 ^ n = (div-lt_iff_lt-mul {k = 256} {x = v} {y = 256 ^ n} (omega arith)).1 (rw (pow-suc 256 n) at small) in
    let rest : num_at s (i + 1) n ≡ v / 256 = num_read {i = i + 1} n (v / 256) top (has_tail h) in
    rw (has_head h, ← add-one i, rest) (mod-add-div v 256)

-- two halves written one after the other
pub put_halves : {a b d : List ℕ} {at m r : ℕ} (n v : ℕ) → Wrote a at (bytes_of n (v % 256 ^ n)) b m → Wrote b m (bytes_of n (v / 256 ^ n)) d r → Wrote a at (bytes_of (n + n) v) d r
put_halves n v f g = wrote_as (bytes_of (n + n) v) (bytes_join n n v) (wrote_join f g)

-- where a number's bytes end
pub wrote_to : {a b : List ℕ} {at r : ℕ} (n v : ℕ) → Wrote a at (bytes_of n v) b r → r ≡ at + n
wrote_to {at = at} n v w = w.end ∙ ap (λ (k : ℕ). at + k) (bytes_length n v)

-- one byte stored
pub wrote_byte : (a : List ℕ) (at b : ℕ) → b < 256 → at + 1 ≤ length a → Wrote a at (bytes_of 1 b) (set a at b) (at + 1)
unfolding bytes_of
wrote_byte a at b small fit = rw (mod-eq_of_lt small) (record { is = refl; end = refl; room = fit })
