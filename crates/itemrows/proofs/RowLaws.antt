-- The rows of an item's lists from their sizes: turns of the loop. Assumes nothing.
use Prim.Native.Nat.{ℕ, suc, ◌+◌, ◌*◌, ◌≤◌, ◌<◌}
use mathlib.Core.List.{List, [], ◌∷◌, ◌++◌, append-nil, append_assoc}
use mathlib.Core.Path.{◌≡◌, refl, sym, ap, ◌∙◌}
use native.Mathlib.Nat.{add-zero, add_assoc}
use native.Mathlib.Numerals.{add-one}
use native.Mathlib.Omega.{arith}
use lib.ListN.{length, take, drop, get_or, set, drop_of_length-le}
use lib.Seq.{drop-cons, take-suc-set}
use borrow.Author.Tests.{eq-eqb, ne_eqb}
use Rattle.itemrows.specs.Joined.{fields_of, bytes_for, list_row, sum_by, count_of, list_rows}

-- ---- one list: no field, or one
pub fields_no : (t : ℕ) → t ≡ 0 → 0 ≡ fields_of t
unfolding fields_of
fields_no t e = rw (eq-eqb t 0 e)

pub fields_one : (t : ℕ) → (t ≡ 0 → ⊥) → 1 ≡ fields_of t
unfolding fields_of
fields_one t ne = rw (ne_eqb t 0 ne)

pub bytes_no : (t : ℕ) → t ≡ 0 → 0 ≡ bytes_for t
unfolding bytes_for
bytes_no t e = rw (eq-eqb t 0 e)

pub bytes_some : (t : ℕ) → (t ≡ 0 → ⊥) → t + 1 ≡ bytes_for t
unfolding bytes_for
bytes_some t ne = rw (ne_eqb t 0 ne)

pub row_no : (rows : List (List ℕ)) (n due tag t : ℕ) → t ≡ 0 → take (n + fields_of t) rows ≡ take n rows ++ list_row due tag t
unfolding list_row
row_no rows n due tag t e = rw (← (fields_no t e), eq-eqb t 0 e, add-zero, append-nil (take n rows))

pub row_one : (rows : List (List ℕ)) (n due tag t : ℕ) → (t ≡ 0 → ⊥) → n < length rows
    → take (n + fields_of t) (set rows n (tag ∷ (t + 1) ∷ due ∷ [])) ≡ take n rows ++ list_row due tag t
unfolding list_row
row_one rows n due tag t ne h = rw (← (fields_one t ne), ne_eqb t 0 ne, add-one n, take-suc-set rows n (tag ∷ (t + 1) ∷ due ∷ []) h)

-- ---- sums over four
pub four_is : (ts : List ℕ) → length ts ≡ 4 → ts ≡ get_or ts 0 0 ∷ get_or ts 1 0 ∷ get_or ts 2 0 ∷ get_or ts 3 0 ∷ []
four_is (a ∷ b ∷ c ∷ d ∷ []) e = refl
four_is [] e = absurd (omega arith)
four_is (a ∷ []) e = absurd (omega arith)
four_is (a ∷ b ∷ []) e = absurd (omega arith)
four_is (a ∷ b ∷ c ∷ []) e = absurd (omega arith)
four_is (a ∷ b ∷ c ∷ d ∷ x ∷ xs) e = absurd (omega arith)

pub sum_four : (f : ℕ → ℕ) (ts : List ℕ) (a b c d : ℕ) → length ts ≡ 4 → a ≡ f (get_or ts 0 0) → b ≡ f (get_or ts 1 0) → c ≡ f (get_or ts 2 0) → d ≡ f (get_or ts 3 0)
    → a + b + c + d ≡ sum_by f ts
unfolding sum_by
sum_four f ts a b c d long ea eb ec ed =
    rw (ea, eb, ec, ed) (sym (ap (sum_by f) (four_is ts long) ∙ regroup (f (get_or ts 0 0)) (f (get_or ts 1 0)) (f (get_or ts 2 0)) (f (get_or ts 3 0))))
  where
    regroup : (a b c d : ℕ) → a + (b + (c + (d + 0))) ≡ a + b + c + d
    regroup a b c d = omega arith

-- ---- the loop: rows of the lists from i on, behind m rows, due at d
pub record Listing (rows : List (List ℕ)) (n due : ℕ) (tags totals : List ℕ) (out : List (List ℕ)) (m d i : ℕ) : Type 0 where
  pub inside : i ≤ 4
  pub long : length out ≡ 8
  pub least : n ≤ m
  pub few : m ≤ n + i
  pub near : d ≤ due + i * 300001
  pub are : take m out ++ list_rows d (drop i tags) (drop i totals) ≡ take n rows ++ list_rows due tags totals
  pub count : m + count_of (drop i totals) ≡ n + count_of totals

pub listing_start : (rows : List (List ℕ)) (n due : ℕ) (tags totals : List ℕ) → length rows ≡ 8 → Listing rows n due tags totals rows n due 0
listing_start rows n due tags totals long =
    record { inside = omega arith; long = long; least = omega arith; few = omega arith; near = omega arith; are = refl; count = refl }

module _ {rows out : List (List ℕ)} {n due m d i : ℕ} {tags totals : List ℕ} (so : Listing rows n due tags totals out m d i) (lg : length tags ≡ 4) (lt : length totals ≡ 4) where
  pub listing_on : {next : List (List ℕ)} (f b : ℕ) → i < 4
      → (length next ≡ 8) × (take (m + fields_of (get_or totals i 0)) next ≡ take m out ++ list_row d (get_or tags i 0) (get_or totals i 0))
      → (f ≡ fields_of (get_or totals i 0)) × (f ≤ 1) → (b ≡ bytes_for (get_or totals i 0)) × (b ≤ 300001) → Listing rows n due tags totals next (m + f) (d + b) (i + 1)
  unfolding list_rows sum_by
  listing_on f b here (long, step) (ef, lf) (eb, lb) =
      let inside = so.inside in
      let least = so.least in
      let few = so.few in
      let near = so.near in
      let g = get_or tags i 0 in
      let t = get_or totals i 0 in
      let gs = drop-cons tags i 0 (omega arith) in
      let ts = drop-cons totals i 0 (omega arith) in
      let are : take m out ++ list_rows d (g ∷ drop (suc i) tags) (t ∷ drop (suc i) totals) ≡ take n rows ++ list_rows due tags totals = rw (gs, ts) at so.are in
      let count : m + count_of (t ∷ drop (suc i) totals) ≡ n + count_of totals = rw ts at so.count in
      record {
        inside = omega arith;
        long = long;
        least = omega arith;
        few = omega arith;
        near = omega arith;
        are = rw (ef, eb, add-one i, step)
            (append_assoc (take m out) (list_row d g t) (list_rows (d + bytes_for t) (drop (suc i) tags) (drop (suc i) totals)) ∙ are);
        count = rw (ef, add-one i) (add_assoc m (fields_of t) (count_of (drop (suc i) totals)) ∙ count);
      }

  pub listing_end : 4 ≤ i → take (n + count_of totals) out ≡ take n rows ++ list_rows due tags totals
  unfolding list_rows sum_by
  listing_end h =
      let gs = drop_of_length-le tags {i = i} (omega arith) in
      let ts = drop_of_length-le totals {i = i} (omega arith) in
      let none : list_rows d (drop i tags) (drop i totals) ≡ [] = ap (λ (l : List ℕ). list_rows d l (drop i totals)) gs in
      let zeros : count_of (drop i totals) ≡ 0 = ap count_of ts in
      let count : n + count_of totals ≡ m = omega (arith, so.count) in
      rw count (sym (append-nil (take m out)) ∙ sym (ap (λ (l : List (List ℕ)). take m out ++ l) none) ∙ so.are)
