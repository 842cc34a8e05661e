-- Laws of faults: what no fault tells, and that a fault stands in its field. Assumes nothing.
use Prim.Native.Nat.{ℕ, zero, suc, ◌≤◌, ◌<◌}
use mathlib.Core.Bool.{Bool, true, false}
use mathlib.Core.Path.{◌≡◌, refl, sym, ◌∙◌}
use native.Mathlib.Omega.{arith}
use lib.Dec.{eqb-suc-zero}
use Rattle.std.specs.Prelude.{Result, Ok, Err, is_ok, is_err, IfErr, OnOk}
use Rattle.values.specs.declared.fault.Fault.{Fault}
use Rattle.values.specs.Fault.{fault_at, first, told, told_place}

-- ---- no fault: the rule holds; and none before nor after
pub fault_none : (i : ℕ) (good : Bool) → fault_at i good ≡ 0 → good ≡ true
unfolding fault_at
fault_none i true h = refl
fault_none i false h = absurd (omega arith)

pub first_none : (a b : ℕ) → first a b ≡ 0 → (a ≡ 0) × (b ≡ 0)
unfolding first
first_none zero b h = (refl, h)
first_none (suc a) b h = absurd (let z : suc a ≡ 0 = rw (eqb-suc-zero a) at h in omega arith)

-- ---- a fault is at most n where its subfield begins below n
pub fault_within : (n i : ℕ) (good : Bool) → i < n → fault_at i good ≤ n
unfolding fault_at
fault_within n i true h = omega arith
fault_within n i false h = omega arith

pub first_within : (n a b : ℕ) → a ≤ n → b ≤ n → first a b ≤ n
unfolding first
first_within n zero b h k = k
first_within n (suc a) b h k = rw (eqb-suc-zero a) h

-- ---- a fault as the code tells it: made of its number, and read back
pub told_ok : {n : ℕ} → n ≡ 0 → Ok tt ≡ told n
unfolding told
told_ok e = rw e

pub told_err : {n i : ℕ} → n ≡ suc i → Err (record { at = i }) ≡ told n
unfolding told
told_err e = rw e

pub told_none : (n : ℕ) {r : Result Unit Fault} {u : Unit} → r ≡ told n → r ≡ Ok u → n ≡ 0
unfolding told
told_none zero e h = refl
told_none (suc n) e h = cc

pub told_some : (n : ℕ) {r : Result Unit Fault} {f : Fault} → r ≡ told n → r ≡ Err f → n ≡ suc f.at
unfolding told
told_some zero e h = cc
told_some (suc n) {r} {f} e h = let p : Err (record { at = n }) ≡ Err f = sym e ∙ h in cc

-- it stands in its field
pub told_within : (n m : ℕ) {r : Result Unit Fault} → r ≡ told n → n ≤ m → IfErr r (λ f. f.at < m)
unfolding told
told_within zero m e few = rw e tt
told_within (suc n) m e few = rw e (omega arith)

-- ---- the same of a place
pub place_ok : {n : ℕ} → n ≡ 0 → Ok tt ≡ told_place n
unfolding told_place
place_ok e = rw e

pub place_err : (n : ℕ) {i : ℕ} → n ≡ i → (i ≡ 0 → ⊥) → Err (record { at = i }) ≡ told_place n
unfolding told_place
place_err zero e some = absurd (some (sym e))
place_err (suc n) e some = rw (← e)

pub place_none : (n : ℕ) {r : Result Unit Fault} {u : Unit} → r ≡ told_place n → r ≡ Ok u → n ≡ 0
unfolding told_place
place_none zero e h = refl
place_none (suc n) e h = cc

pub place_some : (n : ℕ) {r : Result Unit Fault} {f : Fault} → r ≡ told_place n → r ≡ Err f → (n ≡ f.at) × (n ≡ 0 → ⊥)
unfolding told_place
place_some zero e h = cc
place_some (suc n) {r} {f} e h = let p : Err (record { at = suc n }) ≡ Err f = sym e ∙ h in (cc, λ z. omega arith)

-- ---- asked whether there is none
pub well : (r : Result Unit Fault) → is_ok r ≡ true → r ≡ Ok tt
well (Ok u) h = refl
well (Err f) h = cc

pub no_err : (r : Result Unit Fault) → is_err r ≡ false → r ≡ Ok tt
no_err (Ok u) h = refl
no_err (Err f) h = cc

-- ---- what holds anyway holds where there is no fault
pub on_any : {P : Type 0} (r : Result Unit Fault) → P → OnOk r P
on_any (Ok u) p = p
on_any (Err f) p = tt
