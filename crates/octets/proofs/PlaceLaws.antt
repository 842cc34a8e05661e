-- Laws of a place that may be none: made of its number, and read back. Assumes nothing.
use Prim.Native.Nat.{ℕ, zero, suc}
use mathlib.Core.Path.{◌≡◌, refl}
use native.Mathlib.Omega.{arith}
use Rattle.std.specs.Prelude.{Some, None}
use Rattle.octets.specs.Place.{some_place}

pub nowhere : {n : ℕ} → n ≡ 0 → None ≡ some_place n
unfolding some_place
nowhere e = rw e

pub somewhere : (n : ℕ) {e : ℕ} → e ≡ n → (e ≡ 0 → ⊥) → Some e ≡ some_place n
unfolding some_place
somewhere zero e some = absurd (some e)
somewhere (suc n) e some = rw e

pub nowhere_told : (n : ℕ) → None ≡ some_place n → n ≡ 0
unfolding some_place
nowhere_told zero h = refl
nowhere_told (suc n) h = cc

pub somewhere_told : (n : ℕ) {e : ℕ} → Some e ≡ some_place n → (e ≡ n) × (e ≡ 0 → ⊥)
unfolding some_place
somewhere_told zero h = cc
somewhere_told (suc n) {e} h = let same : e ≡ suc n = cc in (same, λ z. omega arith)
