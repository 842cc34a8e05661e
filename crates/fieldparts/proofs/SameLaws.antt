-- Laws of `same_list`. Assumes nothing.
use Prim.Native.Nat.{ℕ}
use mathlib.Core.Bool.{Bool, true, ◌&&◌}
use mathlib.Core.List.{List, [], ◌∷◌}
use mathlib.Core.Path.{◌≡◌, refl, ap}
use native.Mathlib.Omega.{arith}
use lib.Dec.{eqb}
use lib.Pointwise.{pointwise}
use borrow.Author.Tests.{eqb-true, eq-eqb}
use Rattle.octets.proofs.Tests.{both}
use Rattle.fieldparts.specs.Same.{same_list}

-- ---- it says that the lists are equal, no more and no less
pub same_refl : (xs : List ℕ) → same_list xs xs ≡ true
unfolding same_list
same_refl [] = refl
same_refl (x ∷ xs) = rw (eq-eqb x x refl) (same_refl xs)

pub same_equal : (xs ys : List ℕ) → same_list xs ys ≡ true → xs ≡ ys
unfolding same_list
same_equal [] [] h = refl
same_equal [] (y ∷ ys) h = absurd (let z : ◌≡◌ {A = ℕ} 0 1 = cc in omega arith)
same_equal (x ∷ xs) [] h = absurd (let z : ◌≡◌ {A = ℕ} 0 1 = cc in omega arith)
same_equal (x ∷ xs) (y ∷ ys) h =
    let p = both (eqb x y) (same_list xs ys) h in
    let front = eqb-true x y p.0 in
    let back = same_equal xs ys p.1 in
    cc

pub same_exactly : (xs ys : List ℕ) → (same_list xs ys ≡ true → xs ≡ ys) × (xs ≡ ys → same_list xs ys ≡ true)
same_exactly xs ys = (same_equal xs ys, λ (e : xs ≡ ys). rw e (same_refl ys))

-- ---- it is the library's test, item by item
pub same_pointwise : (xs ys : List ℕ) → pointwise eqb xs ys ≡ same_list xs ys
unfolding same_list
same_pointwise [] [] = refl
same_pointwise [] (y ∷ ys) = refl
same_pointwise (x ∷ xs) [] = refl
same_pointwise (x ∷ xs) (y ∷ ys) = ap (λ (r : Bool). eqb x y && r) (same_pointwise xs ys)
