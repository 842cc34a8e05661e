-- What the rule on the sum of TOPI means. Assumes nothing.
use Prim.Native.Nat.{ℕ, ◌≤◌, ◌<◌}
use mathlib.Core.Bool.{true, ◌&&◌}
use mathlib.Core.List.{List, [], ◌∷◌}
use mathlib.Core.Logic.{⊎_elim, ◌⊎◌, inl, inr}
use mathlib.Core.Path.{◌≡◌}
use native.Mathlib.Omega.{arith}
use lib.Dec.{eqb, leb}
use borrow.Author.Tests.{leb-true}
use Rattle.octets.specs.Number.{byte_at}
use Rattle.octets.proofs.Cases.{le_or_lt}
use Rattle.octets.proofs.Tests.{all4, both}
use Rattle.entries.specs.Rules.{through}
use Rattle.vectorshape.specs.Shape.{end_good, add_topi}

pub end_topi : (e : List ℕ) → end_good e ≡ true → (1 ≤ byte_at e 7) × (byte_at e 7 ≤ 2)
unfolding end_good
end_topi e h =
    let range = leb 1 (byte_at e 7) && (leb (byte_at e 7) 2 && eqb (byte_at e 8) 255) in
    let first = (all4 (eqb (byte_at e 0) 120) (eqb (byte_at e 5) 255) (eqb (byte_at e 6) 255) range h).3 in
    let low = both (leb 1 (byte_at e 7)) (leb (byte_at e 7) 2 && eqb (byte_at e 8) 255) first in
    let high = both (leb (byte_at e 7) 2) (eqb (byte_at e 8) 255) low.1 in
    (leb-true 1 (byte_at e 7) low.0, leb-true (byte_at e 7) 2 high.0)

-- "one TOPI 1 (begin) and one TOPI 2 (end)", in either order
pub ends_apart : (a b : List ℕ) → end_good a ≡ true → end_good b ≡ true → through add_topi 0 (a ∷ b ∷ []) ≡ 3
    → ((byte_at a 7 ≡ 1) × (byte_at b 7 ≡ 2)) ⊎ ((byte_at a 7 ≡ 2) × (byte_at b 7 ≡ 1))
unfolding through add_topi
ends_apart a b good_a good_b sum =
    let x = end_topi a good_a in
    let y = end_topi b good_b in
    ⊎_elim (λ (h : byte_at a 7 ≤ 1). inl (omega arith)) (λ (h : 1 < byte_at a 7). inr (omega arith)) (le_or_lt (byte_at a 7) 1)

pub ends_sum : (a b : List ℕ) → ((byte_at a 7 ≡ 1) × (byte_at b 7 ≡ 2)) ⊎ ((byte_at a 7 ≡ 2) × (byte_at b 7 ≡ 1)) → through add_topi 0 (a ∷ b ∷ []) ≡ 3
unfolding through add_topi
ends_sum a b h =
    ⊎_elim (λ (l : (byte_at a 7 ≡ 1) × (byte_at b 7 ≡ 2)). omega arith) (λ (r : (byte_at a 7 ≡ 2) × (byte_at b 7 ≡ 1)). omega arith) h
