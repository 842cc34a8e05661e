-- Objects in held order. Assumes nothing.
use Prim.Native.Nat.{ℕ, ◌+◌, ◌≤◌, ◌<◌}
use mathlib.Core.Bool.{Bool, true, false, ◌||◌}
use mathlib.Core.List.{List, [], ◌∷◌}
use mathlib.Core.Logic.{◌⊎◌, ⊎_elim}
use mathlib.Core.Path.{◌≡◌, refl, ap, ◌∙◌}
use native.Mathlib.Omega.{arith}
use lib.Dec.{eqb, leb}
use borrow.Author.Tests.{le-leb, lt-leb, eqb-false, ne_eqb}
use Rattle.octets.proofs.Tests.{or-false, or_swap}
use Rattle.octets.specs.Lists.{is_in}
use Rattle.octets.proofs.Cases.{true_or_false, le_or_lt}
use Rattle.items.specs.Item.{item_name, Item}
use Rattle.names.specs.Held.{insert_by, order_by, held_order}
use Rattle.held.specs.Good.{Good, Ordered}
use Rattle.held.specs.Good.Ordered.{ordered_none, ordered_more}

-- what is in order stays as it is
insert_first : {aall nall low : ℕ} (t : Item) {ts : List Item} → item_name t < low → Ordered aall nall low ts → insert_by item_name t ts ≡ t ∷ ts
unfolding insert_by
insert_first t less ordered_none = refl
insert_first t less (ordered_more {t = u} le good more) = rw (le-leb (item_name t) (item_name u) (omega arith))

pub ordered_stays : {aall nall low : ℕ} {ts : List Item} → Ordered aall nall low ts → held_order ts ≡ ts
unfolding order_by
ordered_stays ordered_none = refl
ordered_stays (ordered_more {t = t} {ts = ts} le good more) = rw (ordered_stays more) (insert_first t (omega arith) more)

-- ---- the names of objects
unfoldable pub names_of : List Item → List ℕ
names_of [] = []
names_of (t ∷ ts) = item_name t ∷ names_of ts

-- each good, and no name twice
pub data Apart (aall nall : ℕ) : List Item → Type 0 where
  apart_none : Apart aall nall []
  apart_more : {t : Item} {ts : List Item} → Good aall nall t → is_in (item_name t) (names_of ts) ≡ false → Apart aall nall ts → Apart aall nall (t ∷ ts)

insert_names : (x : ℕ) (t : Item) (ts : List Item) → is_in x (names_of (insert_by item_name t ts)) ≡ (eqb (item_name t) x || is_in x (names_of ts))
unfolding insert_by names_of is_in
insert_names x t [] = refl
insert_names x t (u ∷ us) =
    ⊎_elim (λ (h : leb (item_name t) (item_name u) ≡ true). rw h)
    (λ (h : leb (item_name t) (item_name u) ≡ false). rw (h, insert_names x t us) (or_swap (eqb (item_name u) x) (eqb (item_name t) x) (is_in x (names_of us))))
    (true_or_false (leb (item_name t) (item_name u)))

pub order_names : (x : ℕ) (ts : List Item) → is_in x (names_of (held_order ts)) ≡ is_in x (names_of ts)
unfolding order_by names_of is_in
order_names x [] = refl
order_names x (t ∷ ts) = insert_names x t (held_order ts) ∙ ap (λ (b : Bool). eqb (item_name t) x || b) (order_names x ts)

insert_ordered : {aall nall low : ℕ} (t : Item) {ts : List Item} → low ≤ item_name t → Good aall nall t → is_in (item_name t) (names_of ts) ≡ false
    → Ordered aall nall low ts → Ordered aall nall low (insert_by item_name t ts)
unfolding insert_by names_of is_in
insert_ordered t low good out ordered_none = ordered_more low good ordered_none
insert_ordered t low good out (ordered_more {t = u} {ts = us} le gu more) =
    let p = or-false (eqb (item_name u) (item_name t)) (is_in (item_name t) (names_of us)) out in
    let ne = eqb-false (item_name u) (item_name t) p.0 in
    ⊎_elim (λ (h : item_name t ≤ item_name u). rw (le-leb (item_name t) (item_name u) h)
    (ordered_more low good (ordered_more {low = item_name t + 1} (differ (item_name u) (item_name t) ne h) gu more)))
    (λ (h : item_name u < item_name t). rw (lt-leb (item_name t) (item_name u) h) (ordered_more le gu (insert_ordered t (omega arith) good p.1 more)))
    (le_or_lt (item_name t) (item_name u))
  where
    differ : (a b : ℕ) → (a ≡ b → ⊥) → b ≤ a → b + 1 ≤ a
    differ a b ne h = omega arith

-- objects of different names, put in order
pub order_ordered : {aall nall : ℕ} {ts : List Item} → Apart aall nall ts → Ordered aall nall 0 (held_order ts)
unfolding order_by
order_ordered apart_none = ordered_none
order_ordered (apart_more {t = t} {ts = ts} good out more) = insert_ordered t (omega arith) good (order_names (item_name t) ts ∙ out) (order_ordered more)

-- objects in order have different names
names_above : {aall nall low : ℕ} (x : ℕ) {ts : List Item} → x < low → Ordered aall nall low ts → is_in x (names_of ts) ≡ false
unfolding names_of is_in
names_above x less ordered_none = refl
names_above x less (ordered_more {t = t} le good more) = rw (ne_eqb (item_name t) x (λ e. omega arith), names_above x (omega arith) more)

pub ordered_apart : {aall nall low : ℕ} {ts : List Item} → Ordered aall nall low ts → Apart aall nall ts
ordered_apart ordered_none = apart_none
ordered_apart (ordered_more {t = t} le good more) = apart_more good (names_above (item_name t) (omega arith) more) (ordered_apart more)
