-- Laws of the parts of a field. Assumes nothing.
use Prim.Native.Nat.{ℕ, zero, suc, ◌+◌, ◌-◌, ◌≤◌, ◌<◌}
use mathlib.Core.List.{List}
use mathlib.Core.Logic.{◌⊎◌, inl, inr, ⊎_elim}
use mathlib.Core.Path.{◌≡◌, sym, ap, ◌∙◌}
use native.Mathlib.Omega.{arith}
use lib.ListN.{length}
use borrow.Author.Tests.{eq-eqb, ne_eqb, lt-ltb, le-ltb}
use Rattle.octets.specs.Number.{byte_at}
use Rattle.octets.proofs.Cases.{le_or_lt, eq_or_ne}
use Rattle.fieldparts.specs.declared.descriptive.Parts.{Parts}
use Rattle.fieldparts.specs.Descriptive.{separator_in, separator_at, parts_at, parts_of}
use Rattle.fieldparts.specs.PartsPremises.{Within}

-- ---- the walk's equations
in_here : (n m : ℕ) (s : List ℕ) (i : ℕ) → n ≡ suc m → byte_at s i ≡ 31 → separator_in n s i ≡ i
unfolding separator_in
in_here n m s i e is = rw (e, eq-eqb (byte_at s i) 31 is)

in_on : (n m : ℕ) (s : List ℕ) (i : ℕ) → n ≡ suc m → (byte_at s i ≡ 31 → ⊥) → separator_in n s i ≡ separator_in m s (i + 1)
unfolding separator_in
in_on n m s i e other = rw (e, ne_eqb (byte_at s i) 31 other)

-- ---- separator: one law for each way through a turn
module _ (s : List ℕ) (from i : ℕ) (so : separator_at s from ≡ separator_at s i) where
  pub found_here : i < length s → byte_at s i ≡ 31 → i ≡ separator_at s from
  unfolding separator_at
  found_here more is = sym (so ∙ in_here (length s - i) (length s - (i + 1)) s i (omega arith) is)

  pub found_later : i < length s → (byte_at s i ≡ 31 → ⊥) → separator_at s from ≡ separator_at s (i + 1)
  unfolding separator_at
  found_later more other = so ∙ in_on (length s - i) (length s - (i + 1)) s i (omega arith) other

  pub found_none : length s ≤ i → {m : ℕ} → m ≡ i → m ≡ separator_at s from
  unfolding separator_at separator_in
  found_none past same = let z : length s - i ≡ 0 = omega arith in same ∙ sym (rw z at so)

-- ---- where the separators stand
in_after : (n : ℕ) (s : List ℕ) (i : ℕ) → i ≤ separator_in n s i
unfolding separator_in
in_after zero s i = omega arith
in_after (suc n) s i =
    ⊎_elim (λ (h : byte_at s i ≡ 31). rw (eq-eqb (byte_at s i) 31 h) (omega arith))
    (λ (h : byte_at s i ≡ 31 → ⊥). rw (ne_eqb (byte_at s i) 31 h) (let z = in_after n s (i + 1) in omega arith)) (eq_or_ne (byte_at s i) 31)

pub separator_after : (s : List ℕ) (i : ℕ) → i ≤ separator_at s i
unfolding separator_at
separator_after s i = in_after (length s - i) s i

parts_none : (s : List ℕ) (a b : ℕ) → length s ≤ b + 1 → parts_at s a b ≡ record { name = 0; labels = 0 }
unfolding parts_at
parts_none s a b h = rw (le-ltb (b + 1) (length s) h)

parts_some : (s : List ℕ) (a b : ℕ) → b + 1 < length s → parts_at s a b ≡ record { name = a; labels = b }
unfolding parts_at
parts_some s a b h = rw (lt-ltb (b + 1) (length s) h)

-- ---- cut
pub cut_some : (s : List ℕ) (a b : ℕ) → a ≡ separator_at s 9 → b ≡ separator_at s (a + 1) → b + 1 < length s → record { name = a; labels = b } ≡ parts_of s
unfolding parts_of
cut_some s a b ea eb h = sym (rw (← ea, ← eb) (parts_some s a b h))

pub cut_none : (s : List ℕ) (a b : ℕ) → a ≡ separator_at s 9 → b ≡ separator_at s (a + 1) → length s ≤ b + 1 → record { name = 0; labels = 0 } ≡ parts_of s
unfolding parts_of
cut_none s a b ea eb h = sym (rw (← ea, ← eb) (parts_none s a b h))

-- ---- what a user of `cut` goes by
pub parts_either : (s : List ℕ) → (parts_of s ≡ record { name = 0; labels = 0 }) ⊎ Within s (parts_of s)
unfolding parts_of
parts_either s =
    let a = separator_at s 9 in
    let b = separator_at s (a + 1) in
    let low : 9 ≤ a = separator_after s 9 in
    let high : a + 1 ≤ b = separator_after s (a + 1) in
    ⊎_elim (λ (h : length s ≤ b + 1). inl (parts_none s a b h))
    (λ (h : b + 1 < length s). inr (rw (parts_some s a b h) (record { after = low; order = omega arith; before = h }))) (le_or_lt (length s) (b + 1))

pub cut_within : {s : List ℕ} {p : Parts} → p ≡ parts_of s → (p.name ≡ 0 → ⊥) → Within s p
cut_within {s} {p} e found =
    ⊎_elim (λ (h : parts_of s ≡ record { name = 0; labels = 0 }). absurd (found (ap (λ (q : Parts). q.name) (e ∙ h))))
    (λ (h : Within s (parts_of s)). rw e h) (parts_either s)
