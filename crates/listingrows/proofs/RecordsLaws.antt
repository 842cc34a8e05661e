-- A record takes 32 bytes at least, so a file of 65,536 bytes has at most 2,048, and 16 bytes of work for each are 32,768. Assumes nothing.
use Prim.Native.Nat.{ℕ, zero, suc, ◌+◌, ◌*◌, ◌≤◌}
use mathlib.Core.List.{List}
use mathlib.Core.Path.{◌≡◌, refl}
use native.Mathlib.Nat.{le_refl}
use native.Mathlib.Numerals.{add-one}
use native.Mathlib.Omega.{arith}
use lib.ListN.{length}
use Rattle.std.specs.Prelude.{Ok}
use Rattle.iso8211.specs.Leader.{size_at}
use Rattle.iso8211.specs.Premises.{RecordIn}
use Rattle.iso8211.specs.File.{frame_of, record_at}
use Rattle.iso8211.proofs.Promise.{at_next, last_ends, record_in}

-- leader 24, a directory of one entry (tag 4, length 1, position 1) and 1E, a field of one byte
record_long : {s : List ℕ} {at : ℕ} → RecordIn s at → 32 ≤ size_at s at
record_long {s} {at} known =
    let framed = known.framed in
    let field = known.fields 0 framed.headed.some in
    let low = framed.headed.low in
    let led = framed.headed.led in
    let l = led.l_low in
    let p = led.p_low in
    let a = field.after in
    let b = field.long in
    let c = field.within in
    omega arith

records_past : (s : List ℕ) (n k : ℕ) → frame_of s ≡ Ok n → k ≤ n → 32 * k ≤ record_at s k
records_past s n zero v h = omega arith
records_past s n (suc k) v h =
    let low = records_past s n k v (omega arith) in
    let long = record_long (record_in s n k (record_at s k) v h refl) in
    let next = at_next s k (record_at s k) refl in
    let step : record_at s (suc k) ≡ record_at s k + size_at s (record_at s k) = rw (← add-one k, ← next) in
    omega arith

pub records_long : (s : List ℕ) (n : ℕ) → frame_of s ≡ Ok n → 32 * n ≤ length s
records_long s n v = let low = records_past s n n v (le_refl n) in let e = last_ends s n v in omega (arith, e.1)

-- "Its work area always suffices"
pub records_few : (s : List ℕ) (n : ℕ) → frame_of s ≡ Ok n → length s ≤ 65536 → n ≤ 2048
records_few s n v short = omega (arith, records_long s n v)
