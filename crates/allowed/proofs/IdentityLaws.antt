-- The identity of two objects of one class. Assumes nothing.
use Prim.Native.Nat.{ℕ, ◌+◌}
use mathlib.Core.Bool.{Bool, true, false, ◌&&◌}
use mathlib.Core.List.{List}
use mathlib.Core.Path.{◌≡◌, sym, ◌∙◌}
use lib.Dec.{eqb}
use borrow.Author.Tests.{eq-eqb, ne_eqb}
use Rattle.octets.specs.Premises.{Reads}
use Rattle.octets.proofs.Tests.{chain}
use Rattle.items.specs.Premises.{Featured, Identified}
use Rattle.items.specs.Identity.{id_at, rcnm_at, prim_at, objl_at, foid_at}
use Rattle.items.proofs.IdentityLaws.{num_one}
use Rattle.items.specs.Item.{is_feature, of_feature, grup_at, item_at}
use Rattle.changes.specs.Amend.{identity_same}

-- ---- GRUP as it is read
pub grup_read : (s : List ℕ) (at id r : ℕ) → id ≡ id_at s at → Reads s (id + 6) 1 r → r ≡ grup_at s at
unfolding grup_at
grup_read s at id r start reads = reads.is ∙ num_one s (id + 6) ∙ rw start

-- ---- two numbers as they were read
pub two_ne : (x y m n : ℕ) → x ≡ m → y ≡ n → (x ≡ y → ⊥) → eqb m n ≡ false
two_ne x y m n a b ne = ne_eqb m n (λ (e : m ≡ n). ne (a ∙ e ∙ sym b))

pub two_eq : (x y m n : ℕ) → x ≡ m → y ≡ n → x ≡ y → eqb m n ≡ true
two_eq x y m n a b e = eq-eqb m n (sym a ∙ e ∙ b)

pub two_same : (x y m n : ℕ) → x ≡ m → y ≡ n → eqb x y ≡ eqb m n
two_same x y m n a b = rw (a, b)

pub ruleset pairs = (chain, two_ne, two_eq, two_same)

-- ---- the identity
module _ (a : List ℕ) (p : ℕ) (b : List ℕ) (q : ℕ) (class : rcnm_at a p ≡ rcnm_at b q) (r : ℕ) (is : r ≡ rcnm_at a p) where
  pub same_vector : (r ≡ 100 → ⊥) → true ≡ identity_same (item_at a p) (item_at b q)
  unfolding identity_same of_feature is_feature
  same_vector ne =
      let here : eqb (rcnm_at a p) 100 ≡ false = ne_eqb (rcnm_at a p) 100 (λ (e : rcnm_at a p ≡ 100). ne (is ∙ e)) in
      let there : eqb (rcnm_at b q) 100 ≡ false = rw class at here in
      rw (here, there)

  pub same_feature : (x : Bool)
      → x ≡ (eqb (foid_at a p) (foid_at b q) && (eqb (prim_at a p) (prim_at b q) && (eqb (grup_at a p) (grup_at b q) && eqb (objl_at a p) (objl_at b q))))
      → r ≡ 100 → x ≡ identity_same (item_at a p) (item_at b q)
  unfolding identity_same of_feature is_feature
  same_feature x told e =
      let here : rcnm_at a p ≡ 100 = sym is ∙ e in
      let there : rcnm_at b q ≡ 100 = sym class ∙ here in
      rw (here, there) told

  pub here_featured : Identified a p → r ≡ 100 → Featured a p
  here_featured known e = known.feature (sym is ∙ e)

  pub there_featured : Identified b q → r ≡ 100 → Featured b q
  there_featured known e = known.feature (sym class ∙ sym is ∙ e)
