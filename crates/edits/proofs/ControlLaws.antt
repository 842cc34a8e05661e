-- Laws of the edit of a list by a control: the rule in numbers, what stands where, and what holds of each entry. Assumes nothing.
use Prim.Native.Nat.{ℕ, zero, suc, ◌+◌, ◌-◌, ◌≤◌}
use mathlib.Core.Bool.{Bool, true, ◌&&◌}
use mathlib.Core.List.{List, [], ◌∷◌, ◌++◌}
use mathlib.Core.Path.{◌≡◌, refl}
use native.Mathlib.Nat.{add-zero}
use native.Mathlib.Omega.{arith}
use lib.ListN.{length, take, drop, length-append, length-drop, take-append-drop}
use lib.Seq.{length-take-le, take_at, drop_at, take-nil, drop-nil}
use lib.Dec.{leb, eqb}
use borrow.Author.Tests.{le-leb, eq-eqb, leb-true, eqb-true}
use Rattle.octets.proofs.Tests.{both, all3, all4}
use Rattle.entries.specs.declared.Shape.{Shape}
use Rattle.entries.specs.Entries.{Each}
use Rattle.entries.specs.Entries.Each.{each_none, each_more}
use Rattle.entries.specs.Rules.{all_of}
use Rattle.entries.proofs.RulesLaws.{all_append}
use Rattle.edits.specs.Control.{Control, gone, come, allowed, Allowed, edited, edited_by}

-- ---- the rule and the numbers say the same
pub allowed_numbers : (c : Control) (held brought : ℕ) → allowed c held brought ≡ true → Allowed c held brought
unfolding allowed
allowed_numbers c held brought h =
    let within = leb (c.index + gone c) (held + 1) in
    let p = all4 (leb 1 c.instruction) (leb c.instruction 3) (leb 1 c.index) (leb 1 c.count && (eqb brought (come c) && within)) h in
    let q = all3 (leb 1 c.count) (eqb brought (come c)) within p.3 in
    record {
      known = (leb-true 1 c.instruction p.0, leb-true c.instruction 3 p.1);
      first = leb-true 1 c.index p.2;
      some = leb-true 1 c.count q.0;
      brings = eqb-true brought (come c) q.1;
      within = leb-true (c.index + gone c) (held + 1) q.2;
    }

pub allowed_told : {c : Control} {held brought : ℕ} → Allowed c held brought → allowed c held brought ≡ true
unfolding allowed
allowed_told {c} {held} {brought} a =
    rw (le-leb 1 c.instruction a.known.0, le-leb c.instruction 3 a.known.1, le-leb 1 c.index a.first)
    (rw (le-leb 1 c.count a.some, eq-eqb brought (come c) a.brings)
    (le-leb (c.index + gone c) (held + 1) a.within))

-- ---- what stands where: in front, in the middle and behind
module _ {E : Type 0} (before out : ℕ) (held new : List E) (fits : before + out ≤ length held) where
  front_length : length (take before held) ≡ before
  front_length = length-take-le before held (omega arith)

  pub edited_length : length (edited before out held new) + out ≡ length held + length new
  unfolding edited
  edited_length = simp (length-append, length-drop, front_length) (omega arith)

  pub edited_front : take before (edited before out held new) ≡ take before held
  unfolding edited
  edited_front = take_at (take before held) (new ++ drop (before + out) held) before front_length

  pub edited_new : take (length new) (drop before (edited before out held new)) ≡ new
  unfolding edited
  edited_new =
      rw (drop_at (take before held) (new ++ drop (before + out) held) before front_length) (take_at new (drop (before + out) held) (length new) refl)

  pub edited_back : drop (length new) (drop before (edited before out held new)) ≡ drop (before + out) held
  unfolding edited
  edited_back =
      rw (drop_at (take before held) (new ++ drop (before + out) held) before front_length) (drop_at new (drop (before + out) held) (length new) refl)

-- nothing out, nothing new
pub edited_same : {E : Type 0} (before : ℕ) (held : List E) → edited before 0 held [] ≡ held
unfolding edited
edited_same before held = rw (add-zero before) (take-append-drop before held)

-- of no entries and none that come
pub edited_none : {E : Type 0} (before out : ℕ) → ◌≡◌ {A = List E} (edited before out [] []) []
unfolding edited
edited_none {E} before out = rw (take-nil {A = E} before, drop-nil {A = E} (before + out))

pub edited_by_none : {E : Type 0} (c : Control) → ◌≡◌ {A = List E} (edited_by c [] []) []
unfolding edited_by
edited_by_none c = edited_none _ _

-- how long the list becomes
pub edited_by_length : {E : Type 0} {c : Control} (held brought : List E) → Allowed c (length held) (length brought)
    → length (edited_by c held brought) + gone c ≡ length held + come c
unfolding edited_by
edited_by_length {E} {c} held brought a =
    let n = edited_length (c.index - 1) (gone c) held brought (omega arith) in omega arith

-- ---- whole entries stay whole
each_append : {sh : Shape} {xs ys : List (List ℕ)} → Each sh xs → Each sh ys → Each sh (xs ++ ys)
each_append each_none w = w
each_append (each_more e more) w = each_more e (each_append more w)

each_take : {sh : Shape} (n : ℕ) {xs : List (List ℕ)} → Each sh xs → Each sh (take n xs)
each_take zero w = each_none
each_take (suc n) each_none = each_none
each_take (suc n) (each_more e more) = each_more e (each_take n more)

each_drop : {sh : Shape} (n : ℕ) {xs : List (List ℕ)} → Each sh xs → Each sh (drop n xs)
each_drop zero w = w
each_drop (suc n) each_none = each_none
each_drop (suc n) (each_more e more) = each_drop n more

pub edited_each : {sh : Shape} (before out : ℕ) {held new : List (List ℕ)} → Each sh held → Each sh new → Each sh (edited before out held new)
unfolding edited
edited_each before out h n = each_append (each_take before h) (each_append n (each_drop (before + out) h))

-- ---- a rule of each entry stays kept
all_take : {E : Type 0} (good : E → Bool) (n : ℕ) (xs : List E) → all_of good xs ≡ true → all_of good (take n xs) ≡ true
unfolding all_of
all_take good zero xs h = refl
all_take good (suc n) [] h = refl
all_take good (suc n) (x ∷ xs) h = let p = both (good x) (all_of good xs) h in rw p.0 (all_take good n xs p.1)

all_drop : {E : Type 0} (good : E → Bool) (n : ℕ) (xs : List E) → all_of good xs ≡ true → all_of good (drop n xs) ≡ true
unfolding all_of
all_drop good zero xs h = h
all_drop good (suc n) [] h = refl
all_drop good (suc n) (x ∷ xs) h = all_drop good n xs (both (good x) (all_of good xs) h).1

pub edited_all : {E : Type 0} (good : E → Bool) (before out : ℕ) (held new : List E) → all_of good held ≡ true → all_of good new ≡ true
    → all_of good (edited before out held new) ≡ true
unfolding edited
edited_all good before out held new h n =
    rw (all_append good (take before held), all_append good new, all_take good before held h, n) (all_drop good (before + out) held h)
