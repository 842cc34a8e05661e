-- What holds of every format list that is written out: it is none, or has an end and a primitive; that at most 32 items of a list are looked at
-- takes no good list away; and the code's answer is the only one that says it. Assumes nothing.
use Prim.Native.Nat.{ℕ, zero, suc, ◌+◌, ◌-◌, ◌*◌, ◌≤◌, ◌<◌}
use mathlib.Core.List.{List, [], ◌++◌}
use mathlib.Core.Logic.{◌⊎◌, inl, inr, ⊎_elim}
use mathlib.Core.Path.{◌≡◌, refl, sym, ap, ◌∙◌}
use native.Mathlib.Nat.{mul-le-mul_right, suc-mul, zero-mul}
use native.Mathlib.Omega.{arith}
use lib.ListN.{length, take, drop, replicate, length-append, take-append-drop}
use borrow.Author.Tests.{eq-eqb, ne_eqb, lt-leb, le-leb}
use Rattle.octets.specs.Number.{byte_at}
use Rattle.octets.proofs.Cases.{le_or_lt, eq_or_ne}
use Rattle.formats.specs.declared.Taken.{Taken}
use Rattle.formats.specs.declared.Formats.{Formats}
use Rattle.formats.specs.Formats.{count_at, primitive_at, Form, form, broken, single, repeated, joined, followed, item_at, items_from, list_at, written_at}
use Rattle.formats.specs.Premises.{Written}
use Rattle.formats.proofs.FormatsLaws.{items_long, list_zero, list_more, items_next, items_none}

-- ---- what is read
-- an item that is read has a primitive
record Some (f : Form) : Type 0 where
  one : (f.end ≡ 0) ⊎ (1 ≤ length f.items)

-- a list that is read is none, or has an end and a primitive
pub record Sound (f : Form) : Type 0 where
  pub either : (f ≡ broken) ⊎ ((1 ≤ f.end) × (1 ≤ length f.items))

sound_broken : Sound broken
sound_broken = record { either = inl refl }

sound_some : (f : Form) → Sound f → Some f
sound_some f h =
    ⊎_elim (λ (e : f ≡ broken). record { one = inl (ap (λ (g : Form). g.end) e) }) (λ (e : (1 ≤ f.end) × (1 ≤ length f.items)). record { one = inr e.1 }) h.either

some_broken : Some broken
some_broken = record { one = inl refl }

some_single : (p : Taken) → Some (single p)
unfolding single
some_single p =
    ⊎_elim (λ (h : p.value ≡ 0). rw (eq-eqb p.value 0 h) some_broken)
    (λ (h : p.value ≡ 0 → ⊥). rw (ne_eqb p.value 0 h) (record { one = inr (omega arith) })) (eq_or_ne p.value 0)

some_item : (inner : Form) (s : List ℕ) (i : ℕ) → Some inner → Some (item_at inner s i)
unfolding item_at
some_item inner s i h =
    ⊎_elim (λ (e : byte_at s i ≡ 40). rw (eq-eqb (byte_at s i) 40 e) h)
    (λ (e : byte_at s i ≡ 40 → ⊥). rw (ne_eqb (byte_at s i) 40 e) (some_single (primitive_at s i))) (eq_or_ne (byte_at s i) 40)

-- what an item adds: one primitive at least, and 32 at most stand then
record Grown (led : List ℕ) (f : Form) : Type 0 where
  more : (f.end ≡ 0) ⊎ ((length led < length f.items) × (length f.items ≤ 32))

repeated_long : (k : ℕ) (xs : List ℕ) → length (repeated k xs) ≡ k * length xs
unfolding repeated
repeated_long zero xs = sym (zero-mul (length xs))
repeated_long (suc k) xs = let z = repeated_long k xs in let y = suc-mul k (length xs) in length-append xs (repeated k xs) ∙ omega arith

grown_joined : (led : List ℕ) (k : ℕ) (xs : List ℕ) (end : ℕ) → 1 ≤ k → 1 ≤ length xs → length led + k * length xs ≤ 32 → Grown led (form (led ++ repeated k xs) end)
grown_joined led k xs end some one room =
    let long : length (led ++ repeated k xs) ≡ length led + k * length xs = length-append led (repeated k xs) ∙ ap (λ (n : ℕ). length led + n) (repeated_long k xs) in
    let up : 1 * length xs ≤ k * length xs = mul-le-mul_right (length xs) some in
    record { more = inr (omega arith) }

grown : (led : List ℕ) (k : ℕ) (part : Form) → Some part → Grown led (joined led k part)
unfolding joined
grown led k part some =
    ⊎_elim (λ (h : part.end ≡ 0). rw (eq-eqb part.end 0 h) (record { more = inl refl }))
    (λ (h : part.end ≡ 0 → ⊥). rw (ne_eqb part.end 0 h)
    (⊎_elim (λ (z : k ≤ 0). rw (lt-leb 1 k (omega arith)) (record { more = inl refl }))
    (λ (z : 0 < k). rw (le-leb 1 k z)
    (⊎_elim (λ (y : k ≤ 99). rw (le-leb k 99 y)
    (⊎_elim (λ (x : length led + k * length part.items ≤ 32). rw (le-leb (length led + k * length part.items) 32 x)
    (⊎_elim (λ (w : part.end ≡ 0). absurd (h w)) (λ (w : 1 ≤ length part.items). grown_joined led k part.items part.end z w x) some.one))
    (λ (x : 32 < length led + k * length part.items). rw (lt-leb (length led + k * length part.items) 32 x) (record { more = inl refl }))
    (le_or_lt (length led + k * length part.items) 32)))
    (λ (y : 99 < k). rw (lt-leb k 99 y) (record { more = inl refl })) (le_or_lt k 99)))
    (le_or_lt k 0)))
    (eq_or_ne part.end 0)

-- what follows an item is one of three
followed_none : (further : ℕ → List ℕ → Form) (s : List ℕ) (f : Form) → f.end ≡ 0 → followed further s f ≡ broken
unfolding followed
followed_none further s f h = rw (eq-eqb f.end 0 h)

followed_alike : (one two : ℕ → List ℕ → Form) (s : List ℕ) (f : Form) → one (f.end + 1) f.items ≡ two (f.end + 1) f.items → followed one s f ≡ followed two s f
unfolding followed
followed_alike one two s f e = rw e

followed_sound : (further : ℕ → List ℕ → Form) (s : List ℕ) (f : Form) → 1 ≤ length f.items → Sound (further (f.end + 1) f.items) → Sound (followed further s f)
unfolding followed
followed_sound further s f one on =
    ⊎_elim (λ (h : f.end ≡ 0). rw (eq-eqb f.end 0 h) sound_broken)
    (λ (h : f.end ≡ 0 → ⊥). rw (ne_eqb f.end 0 h)
    (⊎_elim (λ (k : byte_at s f.end ≡ 41). rw (eq-eqb (byte_at s f.end) 41 k) (record { either = inr (omega arith, one) }))
    (λ (k : byte_at s f.end ≡ 41 → ⊥). rw (ne_eqb (byte_at s f.end) 41 k)
    (⊎_elim (λ (l : byte_at s f.end ≡ 44). rw (eq-eqb (byte_at s f.end) 44 l) on)
    (λ (l : byte_at s f.end ≡ 44 → ⊥). rw (ne_eqb (byte_at s f.end) 44 l) sound_broken) (eq_or_ne (byte_at s f.end) 44)))
    (eq_or_ne (byte_at s f.end) 41)))
    (eq_or_ne f.end 0)

-- what the item at i makes of what is led
abbrev next_led : (List ℕ → ℕ → Form) → List ℕ → ℕ → List ℕ → Form
next_led inner s i led = joined led (count_at s i).value (item_at (inner s (count_at s i).next) s (count_at s i).next)

module _ (inner : List ℕ → ℕ → Form) (good : (s : List ℕ) (i : ℕ) → Sound (inner s i)) where
  next_grown : (s : List ℕ) (i : ℕ) (led : List ℕ) → Grown led (next_led inner s i led)
  next_grown s i led = grown led (count_at s i).value (item_at (inner s (count_at s i).next) s (count_at s i).next)
      (some_item (inner s (count_at s i).next) s (count_at s i).next (sound_some (inner s (count_at s i).next) (good s (count_at s i).next)))

  sound_items : (n : ℕ) (s : List ℕ) (i : ℕ) (led : List ℕ) → Sound (items_from inner n s i led)
  sound_items zero s i led = rw (items_none inner 0 s i led refl) sound_broken
  sound_items (suc n) s i led =
      rw (items_next inner (suc n) n s i led refl)
      (⊎_elim (λ (h : (next_led inner s i led).end ≡ 0). rw (followed_none (items_from inner n s) s (next_led inner s i led) h) sound_broken)
      (λ (h : (length led < length (next_led inner s i led).items) × (length (next_led inner s i led).items ≤ 32)).
      followed_sound (items_from inner n s) s (next_led inner s i led) (omega arith) (sound_items n s ((next_led inner s i led).end + 1) (next_led inner s i led).items))
      (next_grown s i led).more)

  items_full : (n : ℕ) (s : List ℕ) (i : ℕ) (led : List ℕ) → 32 ≤ length led → items_from inner n s i led ≡ broken
  items_full zero s i led full = items_none inner 0 s i led refl
  items_full (suc n) s i led full =
      items_next inner (suc n) n s i led refl
      ∙ ⊎_elim (λ (h : (next_led inner s i led).end ≡ 0). followed_none (items_from inner n s) s (next_led inner s i led) h)
      (λ (h : (length led < length (next_led inner s i led).items) × (length (next_led inner s i led).items ≤ 32)). absurd (omega arith)) (next_grown s i led).more

  items_fuel : (n m : ℕ) (s : List ℕ) (i : ℕ) (led : List ℕ) → 32 ≤ n + length led → 32 ≤ m + length led → items_from inner n s i led ≡ items_from inner m s i led
  items_fuel zero m s i led a b = items_none inner 0 s i led refl ∙ sym (items_full m s i led (omega arith))
  items_fuel (suc n) m s i led a b =
      ⊎_elim (λ (z : m ≤ 0). items_full (suc n) s i led (omega arith) ∙ sym (items_full m s i led (omega arith)))
      (λ (z : 0 < m).
      items_next inner (suc n) n s i led refl
      ∙ ⊎_elim (λ (h : (next_led inner s i led).end ≡ 0). followed_none (items_from inner n s) s (next_led inner s i led) h
      ∙ sym (followed_none (items_from inner (m - 1) s) s (next_led inner s i led) h))
      (λ (h : (length led < length (next_led inner s i led).items) × (length (next_led inner s i led).items ≤ 32)).
      followed_alike (items_from inner n s) (items_from inner (m - 1) s) s (next_led inner s i led)
      (items_fuel n (m - 1) s ((next_led inner s i led).end + 1) (next_led inner s i led).items (omega arith) (omega arith))) (next_grown s i led).more
      ∙ sym (items_next inner m (m - 1) s i led (omega arith)))
      (le_or_lt m 0)

pub sound_list : (levels : ℕ) (s : List ℕ) (i : ℕ) → Sound (list_at levels s i)
sound_list zero s i = rw (list_zero s i 0 refl) sound_broken
sound_list (suc levels) s i =
    rw (list_more s i (suc levels) levels refl)
    (⊎_elim (λ (h : byte_at s i ≡ 40). rw (eq-eqb (byte_at s i) 40 h) (sound_items (list_at levels) (sound_list levels) 32 s (i + 1) []))
    (λ (h : byte_at s i ≡ 40 → ⊥). rw (ne_eqb (byte_at s i) 40 h) sound_broken) (eq_or_ne (byte_at s i) 40))

pub items_enough : (levels n : ℕ) (s : List ℕ) (i : ℕ) → 32 ≤ n → items_from (list_at levels) n s i [] ≡ items_from (list_at levels) 32 s i []
items_enough levels n s i h = items_fuel (list_at levels) (sound_list levels) n 32 s i [] (omega arith) (omega arith)

pub written_broken : (s : List ℕ) (at : ℕ) → (written_at s at).end ≡ 0 → written_at s at ≡ broken
unfolding written_at
written_broken s at h =
    ⊎_elim (λ (e : list_at 4 s at ≡ broken). e) (λ (e : (1 ≤ (list_at 4 s at).end) × (1 ≤ length (list_at 4 s at).items)). absurd (omega arith)) (sound_list 4 s at).either

-- ---- the only answer
pub written_count : {f : Form} {n : ℕ} {r : Formats} → Written f n r → r.count ≡ length f.items
written_count told = sym (items_long told.fills) ∙ ap (λ (g : Form). length g.items) told.is

pub written_items : {f : Form} {n : ℕ} {r : Formats} → Written f n r → r.items ≡ f.items ++ replicate (32 - length f.items) 0
written_items {f} {n} {r} told =
    let front : take r.count r.items ≡ f.items = ap (λ (g : Form). g.items) told.is in
    let back : drop r.count r.items ≡ replicate (32 - length f.items) 0 = told.fills.rest ∙ ap (λ (k : ℕ). replicate (32 - k) 0) (written_count told) in
    sym (take-append-drop r.count r.items) ∙ rw (front, back)

pub written_end : {f : Form} {n : ℕ} {r : Formats} → Written f n r → r.end ≡ f.end
written_end told = ap (λ (g : Form). g.end) told.is

formats_same : (a b : Formats) → a.items ≡ b.items → a.count ≡ b.count → a.end ≡ b.end → a ≡ b
formats_same a b x y z = let same : record { items = a.items; count = a.count; end = a.end } ≡ b = rw (x, y, z) in same

pub written_only : {f : Form} {n : ℕ} {r q : Formats} → Written f n r → Written f n q → r ≡ q
written_only {f} {n} {r} {q} one two =
    formats_same r q (written_items one ∙ sym (written_items two)) (written_count one ∙ sym (written_count two)) (written_end one ∙ sym (written_end two))

-- the end 0: no good list stands there, and nothing is written out
pub written_none : (s : List ℕ) (at : ℕ) {n : ℕ} {r : Formats} → Written (written_at s at) n r → r.end ≡ 0 → (written_at s at ≡ broken) × (r.count ≡ 0)
    × (r.items ≡ replicate 32 0)
written_none s at {n} {r} told h =
    let none : written_at s at ≡ broken = written_broken s at (sym (written_end told) ∙ h) in
    (none, written_count told ∙ ap (λ (g : Form). length g.items) none, written_items told ∙ ap (λ (g : Form). g.items ++ replicate (32 - length g.items) 0) none)
