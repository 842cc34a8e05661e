-- Two lists copied one behind the other. Assumes nothing.
use Prim.Native.Nat.{ℕ, ◌+◌, ◌-◌, ◌≤◌}
use mathlib.Core.List.{List}
use mathlib.Core.Path.{◌≡◌}
use native.Mathlib.Omega.{arith}
use lib.ListN.{length}
use Rattle.octets.specs.Area.{Wrote}
use Rattle.octets.proofs.AreaLaws.{has_left, has_right, has_part, wrote_join, wrote_has, wrote_length}
use Rattle.amend.specs.Sides.{SideBySide}

pub sides_first : (old new area : List ℕ) → length old + length new ≤ length area → 0 + length old ≤ length area
sides_first old new area h = omega arith

pub sides_second : {old a b : List ℕ} {m : ℕ} (new : List ℕ) → length old + length new ≤ length a → Wrote a 0 old b m → m + length new ≤ length b
sides_second new h w = omega (arith, w.end, wrote_length w)

pub sides_put : {old new a b c : List ℕ} {m r : ℕ} → Wrote a 0 old b m → Wrote b m new c r → SideBySide old new c (record { held = m; all = r })
sides_put {old} {new} {a} {b} {c} {m} {r} w x =
    let both = wrote_has (wrote_join w x) in
    let front = has_part old (has_left old new both) in
    let back = has_part new (has_right old new both) in
    let first : m - 0 ≡ length old = omega (arith, w.end) in
    let second : r - m ≡ length new = omega (arith, x.end) in
    let place : m ≡ 0 + length old = w.end in
    record {
      first = rw first front;
      second = rw (second, place) back;
      order = omega (arith, x.end);
      within = omega (arith, x.room, wrote_length x);
    }
