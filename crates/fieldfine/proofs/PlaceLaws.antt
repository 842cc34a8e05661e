-- Laws of the places of fields, by computing, and of the forms of a field that the code tells. Assumes nothing.
use Prim.Native.Nat.{ℕ, zero, suc, ◌+◌, ◌≤◌}
use mathlib.Core.Bool.{Bool, true, false, not}
use mathlib.Core.List.{List}
use mathlib.Core.Path.{◌≡◌, refl, sym, ◌∙◌}
use mathlib.Core.Logic.{⊎_elim}
use native.Mathlib.Omega.{arith}
use lib.ListN.{length, get_or}
use lib.Dec.{leb, eqb}
use borrow.Author.Tests.{leb-true, eqb-true, not-false}
use Rattle.octets.proofs.Cases.{eq_or_ne}
use Rattle.octets.proofs.Tests.{told_yes, all3}
use Rattle.octets.specs.Number.{byte_at}
use Rattle.values.specs.Fault.{fault_at, first}
use Rattle.values.specs.Rule.{rcid_good, rver_good, ruin_good}
use Rattle.values.specs.Vrid.{is_vector, vrid_fault}
use Rattle.fieldfine.specs.Told.{groups_good, AttributesTold, PointersTold}
use Rattle.std.specs.Prelude.{Result, is_err}
use Rattle.values.specs.declared.fault.Fault.{Fault}
use Rattle.values.specs.Fault.{told}
use Rattle.values.proofs.FaultLaws.{told_none, no_err}
use Rattle.fieldfine.specs.Place.{list_stands, NoFault, SingleField, IdentifierField, GroupsField, AttributesField, PointersField}

-- ---- what holds of each number from `low` on, n + 1 of them, holds of any between
unfoldable pub Each : (ℕ → Type 0) → ℕ → ℕ → Type 0
Each P low zero = P low
Each P low (suc n) = P low × Each P (suc low) n

pub each_one : (P : ℕ → Type 0) (low n x : ℕ) → Each P low n → low ≤ x → x ≤ low + n → P x
unfolding Each
each_one P low zero x e a b = let same : low ≡ x = omega arith in rw (← same) e
each_one P low (suc n) x e a b =
    ⊎_elim (λ (same : low ≡ x). rw (← same) e.0) (λ (other : low ≡ x → ⊥). each_one P (suc low) n x e.1 (more low x a other) (omega arith)) (eq_or_ne low x)
  where
    more : (p q : ℕ) → p ≤ q → (p ≡ q → ⊥) → suc p ≤ q
    more p q h x = omega arith

-- a list that stands does so behind one of those between
pub stands_each : (marks : List ℕ) (prev low k : ℕ) (P : ℕ → Type 0) (n : ℕ) → list_stands marks prev low k ≡ true → k ≡ low + n → Each P low n → P prev
unfolding list_stands
stands_each marks prev low k P n so e all =
    let a = all3 (eqb (get_or marks k 0) 1) (leb low prev) (leb prev k) so in
    let high = leb-true prev k a.2 in
    each_one P low n prev all (leb-true low prev a.1) (omega arith)

pub stands_declared : (marks : List ℕ) (prev low k : ℕ) → list_stands marks prev low k ≡ true → get_or marks k 0 ≡ 1
unfolding list_stands
stands_declared marks prev low k so = eqb-true _ _ (all3 (eqb (get_or marks k 0) 1) (leb low prev) (leb prev k) so).0

-- ---- a field that isn't fine
module _ {marks : List ℕ} {prev k r : ℕ} (e : r ≡ 20) where
  pub single_not : {n fixed behind : ℕ} → SingleField n fixed marks prev behind k r
  single_not = record { is = λ h. absurd (h e); long = λ h. absurd (h e); after = λ h. absurd (h e); declared = λ h. absurd (h e) }

  pub identifier_not : {fixed fault stage most : ℕ} {c : List ℕ} → IdentifierField fixed fault c marks prev stage most k r
  identifier_not = record {
    is = λ h. absurd (h e);
    long = λ h. absurd (h e);
    after = λ h. absurd (h e);
    due = λ h. absurd (h e);
    declared = λ h. absurd (h e);
    fine = λ h. absurd (h e);
  }

  pub groups_not : {n fixed low : ℕ} → GroupsField n fixed marks prev low k r
  groups_not = record { is = λ h. absurd (h e); stands = λ h. absurd (h e); full = λ h. absurd (h e) }

  pub attributes_not : {update high : Bool} {c : List ℕ} {low stamp : ℕ} {before after : List ℕ} → AttributesField update high c marks prev low k stamp before after r
  attributes_not = record { is = λ h. absurd (h e); stands = λ h. absurd (h e); fine = λ h. absurd (h e) }

  pub pointers_not : {c : List ℕ} {low : ℕ} → PointersField c marks prev low k r
  pointers_not = record { is = λ h. absurd (h e); stands = λ h. absurd (h e); fine = λ h. absurd (h e) }

-- ---- and one that is
pub single_so : {marks : List ℕ} {n fixed prev behind k : ℕ} → n ≡ fixed → prev ≡ behind → get_or marks k 0 ≡ 1 → SingleField n fixed marks prev behind k k
single_so long after marked = record { is = λ h. refl; long = λ h. long; after = λ h. after; declared = λ h. marked }

pub identifier_so : {c marks : List ℕ} {fixed prev stage most k fault : ℕ} (r : Result Unit Fault) (w : Bool) → length c ≡ fixed → get_or marks k 0 ≡ 1
    → prev ≡ 18 → 2 ≤ stage → stage ≤ most → r ≡ told fault → w ≡ is_err r → w ≡ false
    → IdentifierField fixed fault c marks prev stage most k k
identifier_so {fault = fault} r w long marked after low high is asked none = record {
  is = λ h. refl;
  long = λ h. long;
  after = λ h. after;
  due = λ h. (low, high);
  declared = λ h. marked;
  fine = λ h. told_none fault is (no_err r (sym asked ∙ none));
}

-- ---- the values of a VRID
pub vrid_no : {fault : ℕ} → NoFault fault false
vrid_no = record { none = λ e. absurd (let z : ◌≡◌ {A = ℕ} 0 1 = cc in omega arith) }

pub vrid_yes : (update : Bool) (c : List ℕ) (x y z r : Bool) → x ≡ is_vector (byte_at c 0) → not x ≡ false → y ≡ rcid_good c 1 → not y ≡ false → z ≡ rver_good c 5 → not z ≡ false
    → r ≡ ruin_good update (byte_at c 7) → NoFault (vrid_fault update c) r
unfolding vrid_fault first fault_at
vrid_yes update c x y z r a xs b ys d zs e =
    record { none = λ h. rw (told_yes x _ a xs, told_yes y _ b ys, told_yes z _ d zs, ← e, h) }

pub identifier_fine : {c marks : List ℕ} {fixed prev stage most k fault : ℕ} (r : Bool) → length c ≡ fixed → get_or marks k 0 ≡ 1 → prev ≡ 18 → stage ≡ 2 → 2 ≤ most → NoFault fault r
    → not r ≡ false → IdentifierField fixed fault c marks prev stage most k k
identifier_fine r long marked after two high fault yes_fine =
    record { is = λ h. refl; long = λ h. long; after = λ h. after; due = λ h. (omega arith, omega arith); declared = λ h. marked; fine = λ h. fault.none (not-false r yes_fine) }

module _ {marks : List ℕ} {prev low k : ℕ} (a : Bool) (told : a ≡ list_stands marks prev low k) (stands : not a ≡ false) where
  pub groups_so : {n fixed : ℕ} (b : Bool) → b ≡ groups_good fixed n → not b ≡ false → GroupsField n fixed marks prev low k k
  groups_so b is full = record { is = λ h. refl; stands = λ h. told_yes a _ told stands; full = λ h. told_yes b _ is full }

  pub attributes_so : {update high : Bool} {c : List ℕ} {stamp new : ℕ} {before after : List ℕ} (b : Bool) → new ≡ stamp → AttributesTold update high c new before after b
      → not b ≡ false
      → AttributesField update high c marks prev low k stamp before after k
  attributes_so b same is fine = record { is = λ h. refl; stands = λ h. told_yes a _ told stands; fine = λ h. rw (same, not-false b fine) at is }

  pub pointers_so : {c : List ℕ} (b : Bool) → PointersTold c b → not b ≡ false → PointersField c marks prev low k k
  pointers_so b is fine = record { is = λ h. refl; stands = λ h. told_yes a _ told stands; fine = λ h. rw (not-false b fine) at is }
