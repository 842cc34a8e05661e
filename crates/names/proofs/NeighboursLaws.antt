-- Laws of repeats among words in held order: of words whose places ascend in the file, `least_repeat` of them sorted is the place of the
-- first repeat, and there is none just if no two neighbours have one name. Assumes nothing.
use Prim.Native.Nat.{ℕ, zero, suc, ◌+◌, ◌-◌, ◌≤◌, ◌<◌}
use mathlib.Core.Bool.{true}
use mathlib.Core.List.{List, [], ◌∷◌}
use mathlib.Core.Logic.{◌⊎◌, inl, inr, ⊎_elim}
use mathlib.Core.Path.{◌≡◌, refl, sym, ◌∙◌}
use native.Mathlib.Nat.{le_refl}
use native.Mathlib.Omega.{arith}
use lib.ListN.{length, get_or}
use borrow.Author.Tests.{le-leb, lt-leb, eq-eqb, ne_eqb}
use Rattle.octets.proofs.ListLaws.{member_at, member_place}
use Rattle.octets.proofs.Cases.{le_or_lt, eq_or_ne}
use Rattle.words.specs.Order.{insert, sorted}
use Rattle.words.proofs.OrderLaws.{insert_here, insert_later, sorted_member, sorted_in_order}
use Rattle.items.specs.Word.{name_of, word_offset, name_weight}
use Rattle.names.specs.NameWords.{word_twice}
use Rattle.names.specs.Premises.{Ascending}
use Rattle.names.specs.Neighbours.{lower, least_from, least_repeat}
use Rattle.names.specs.declared.twice.Repeat.{Repeat}
use Rattle.names.proofs.RepeatLaws.{repeats, pair_repeats, repeat_pair, twice_no, twice_first}

-- ---- one step
lower_same : (least left right : ℕ) → name_of left ≡ name_of right
    → (lower least left right ≤ least) × (lower least left right ≤ word_offset right) × ((lower least left right ≡ least) ⊎ (lower least left right ≡ word_offset right))
unfolding lower
lower_same least left right e =
    rw (eq-eqb (name_of left) (name_of right) e)
    (⊎_elim (λ (h : least ≤ word_offset right). rw (le-leb least (word_offset right) h) (le_refl least, h, inl refl))
    (λ (h : word_offset right < least). rw (lt-leb least (word_offset right) h) (omega arith, le_refl (word_offset right), inr refl))
    (le_or_lt least (word_offset right)))

lower_other : (least left right : ℕ) → (name_of left ≡ name_of right → ⊥) → lower least left right ≡ least
unfolding lower
lower_other least left right ne = rw (ne_eqb (name_of left) (name_of right) ne)

-- ---- the least place
-- p is the place of a word of l whose left neighbour has its name, `left` standing before l
record Met (left : ℕ) (l : List ℕ) (p : ℕ) : Type 0 where
  pub k : ℕ
  pub below : k < length l
  pub same : name_of (get_or (left ∷ l) k 0) ≡ name_of (get_or l k 0)
  pub place : p ≡ word_offset (get_or l k 0)

-- p is the least of these places and of `least`
record Least (least left : ℕ) (l : List ℕ) (p : ℕ) : Type 0 where
  pub most : p ≤ least
  pub low : (k : ℕ) → k < length l → name_of (get_or (left ∷ l) k 0) ≡ name_of (get_or l k 0) → p ≤ word_offset (get_or l k 0)
  pub met : (p ≡ least) ⊎ Met left l p

module _ (least left w : ℕ) (ws : List ℕ) (p : ℕ) (rest : Least (lower least left w) w ws p) where
  step_most : p ≤ least
  step_most =
      let most = rest.most in
      ⊎_elim (λ (e : name_of left ≡ name_of w). omega (arith, (lower_same least left w e).0))
      (λ (ne : name_of left ≡ name_of w → ⊥). omega (arith, lower_other least left w ne)) (eq_or_ne (name_of left) (name_of w))

  step_low : (k : ℕ) → k < length (w ∷ ws) → name_of (get_or (left ∷ (w ∷ ws)) k 0) ≡ name_of (get_or (w ∷ ws) k 0) → p ≤ word_offset (get_or (w ∷ ws) k 0)
  step_low zero b e = let most = rest.most in omega (arith, (lower_same least left w e).1)
  step_low (suc k) b e = rest.low k (omega arith) e

  step_met : (p ≡ least) ⊎ Met left (w ∷ ws) p
  step_met =
      ⊎_elim (λ (is : p ≡ lower least left w).
      ⊎_elim (λ (e : name_of left ≡ name_of w).
      ⊎_elim (λ (l : lower least left w ≡ least). inl (is ∙ l))
      (λ (r : lower least left w ≡ word_offset w). inr (record { k = 0; below = omega arith; same = e; place = is ∙ r })) (lower_same least left w e).2)
      (λ (ne : name_of left ≡ name_of w → ⊥). inl (is ∙ lower_other least left w ne)) (eq_or_ne (name_of left) (name_of w)))
      (λ (m : Met w ws p). let b = m.below in inr (record { k = suc m.k; below = omega arith; same = m.same; place = m.place }))
      rest.met

least_of : (least left : ℕ) (l : List ℕ) → Least least left l (least_from least left l)
unfolding least_from
least_of least left [] = record { most = le_refl least; low = λ k b e. absurd (omega arith); met = inl refl }
least_of least left (w ∷ ws) =
    let p = least_from (lower least left w) w ws in
    let rest = least_of (lower least left w) w ws in
    record { most = step_most least left w ws p rest; low = step_low least left w ws p rest; met = step_met least left w ws p rest }

-- two neighbours of one name, the right one at p
pub record Neighbours (l : List ℕ) (p : ℕ) : Type 0 where
  pub k : ℕ
  pub below : suc k < length l
  pub same : name_of (get_or l k 0) ≡ name_of (get_or l (suc k) 0)
  pub place : p ≡ word_offset (get_or l (suc k) 0)

pub least_low : (l : List ℕ) (k : ℕ) → suc k < length l → name_of (get_or l k 0) ≡ name_of (get_or l (suc k) 0) → least_repeat l ≤ word_offset (get_or l (suc k) 0)
unfolding least_repeat
least_low [] k b e = absurd (omega arith)
least_low (w ∷ ws) k b e = (least_of name_weight w ws).low k (omega arith) e

pub least_met : (l : List ℕ) → (least_repeat l ≡ name_weight) ⊎ Neighbours l (least_repeat l)
unfolding least_repeat
least_met [] = inl refl
least_met (w ∷ ws) =
    ⊎_elim (λ (e : least_from name_weight w ws ≡ name_weight). inl e)
    (λ (m : Met w ws (least_from name_weight w ws)). let b = m.below in inr (record { k = m.k; below = omega arith; same = m.same; place = m.place }))
    (least_of name_weight w ws).met

-- none just if no two neighbours have one name
pub least_none : (l : List ℕ) (k : ℕ) → least_repeat l ≡ name_weight → suc k < length l → name_of (get_or l k 0) ≡ name_of (get_or l (suc k) 0) → ⊥
least_none l k e b same = let low = least_low l k b same in omega arith

-- ---- no word twice
unfoldable Apart : ℕ → List ℕ → Type 0
Apart x [] = Unit {0}
Apart x (y ∷ l) = (x ≡ y → ⊥) × Apart x l

unfoldable Distinct : List ℕ → Type 0
Distinct [] = Unit {0}
Distinct (x ∷ l) = Apart x l × Distinct l

apart_insert : (x y : ℕ) (l : List ℕ) → (x ≡ y → ⊥) → Apart x l → Apart x (insert y l)
unfolding Apart insert
apart_insert x y [] ne a = (ne, a)
apart_insert x y (z ∷ l) ne a =
    by (apart_insert x y l ne a.1) (le_or_lt y z)
  where
    by : Apart x (insert y l) → (y ≤ z) ⊎ (z < y) → Apart x (insert y (z ∷ l))
    by rest t = ⊎_elim (λ (h : y ≤ z). rw (insert_here y z l h) (ne, a)) (λ (h : z < y). rw (insert_later y z l h) (a.0, rest)) t

distinct_insert : (x : ℕ) (l : List ℕ) → Apart x l → Distinct l → Distinct (insert x l)
unfolding Apart Distinct insert
distinct_insert x [] a d = (a, d)
distinct_insert x (y ∷ l) a d =
    by (distinct_insert x l a.1 d.1) (le_or_lt x y)
  where
    by : Distinct (insert x l) → (x ≤ y) ⊎ (y < x) → Distinct (insert x (y ∷ l))
    by rest t =
        ⊎_elim (λ (h : x ≤ y). rw (insert_here x y l h) (a, d))
        (λ (h : y < x). rw (insert_later x y l h) (apart_insert y x l (λ (e : y ≡ x). a.0 (sym e)) d.0, rest)) t

apart_sorted : (x : ℕ) (l : List ℕ) → Apart x l → Apart x (sorted l)
unfolding Apart sorted
apart_sorted x [] a = a
apart_sorted x (y ∷ l) a = apart_insert x y (sorted l) a.0 (apart_sorted x l a.1)

distinct_sorted : (l : List ℕ) → Distinct l → Distinct (sorted l)
unfolding Distinct sorted
distinct_sorted [] d = d
distinct_sorted (x ∷ l) d = distinct_insert x (sorted l) (apart_sorted x l d.0) (distinct_sorted l d.1)

distinct_at : (l : List ℕ) → Distinct l → (k : ℕ) → suc k < length l → get_or l k 0 ≡ get_or l (suc k) 0 → ⊥
unfolding Apart Distinct
distinct_at [] d k b = absurd (omega arith)
distinct_at (x ∷ []) d k b = absurd (omega arith)
distinct_at (x ∷ (y ∷ l)) d zero b = d.0.0
distinct_at (x ∷ (y ∷ l)) d (suc k) b = distinct_at (y ∷ l) d.1 k (omega arith)

apart_all : (x : ℕ) (l : List ℕ) → ((q : ℕ) → q < length l → word_offset x < word_offset (get_or l q 0)) → Apart x l
unfolding Apart
apart_all x [] low = tt
apart_all x (y ∷ l) low =
    (λ (e : x ≡ y). let less = low 0 (omega arith) in let same : word_offset x ≡ word_offset y = rw e in omega arith, apart_all x l (λ q b. low (suc q) (omega arith)))

ascending_tail : {w : ℕ} {ws : List ℕ} → Ascending (w ∷ ws) → Ascending ws
ascending_tail a = record { up = λ p q less b. a.up (suc p) (suc q) (omega arith) (omega arith) }

distinct_all : (ws : List ℕ) → Ascending ws → Distinct ws
unfolding Distinct
distinct_all [] a = tt
distinct_all (w ∷ ws) a = (apart_all w ws (λ q b. a.up 0 (suc q) (omega arith) (omega arith)), distinct_all ws (ascending_tail a))

-- ---- where a word goes
-- v stands in l at k
record Stands (v : ℕ) (l : List ℕ) : Type 0 where
  pub k : ℕ
  pub below : k < length l
  pub is : get_or l k 0 ≡ v

to_sorted : (ws : List ℕ) (j : ℕ) → j < length ws → Stands (get_or ws j 0) (sorted ws)
to_sorted ws j h =
    let m = member_place (get_or ws j 0) (sorted ws) (sorted_member (get_or ws j 0) ws ∙ member_at ws j h) in
    record { k = m.0; below = m.1; is = m.2 }

of_sorted : (ws : List ℕ) (k : ℕ) → k < length (sorted ws) → Stands (get_or (sorted ws) k 0) ws
of_sorted ws k h =
    let v = get_or (sorted ws) k 0 in
    let m = member_place v ws (sym (sorted_member v ws) ∙ member_at (sorted ws) k h) in
    record { k = m.0; below = m.1; is = m.2 }

module _ (ws : List ℕ) (a : Ascending ws) where
  -- a repeat's left neighbour has its name
  pub repeat_low : (j : ℕ) → repeats [] ws j ≡ true → least_repeat (sorted ws) ≤ word_offset (get_or ws j 0)
  repeat_low j is =
      let pair = repeat_pair ws j is in
      let b = pair.1 in
      let less = b.less in
      let same = b.same in
      let inside = pair.0 in
      let l = sorted ws in
      let x = to_sorted ws b.i (omega arith) in
      let y = to_sorted ws j inside in
      let xb = x.below in
      let yb = y.below in
      let xi = x.is in
      let yi = y.is in
      let up = a.up b.i j less inside in
      let so = sorted_in_order ws in
      ⊎_elim (λ (h : y.k ≤ x.k). let z = so.order y.k x.k h xb in absurd (omega arith))
      (λ (h : x.k < y.k).
      let k = y.k - 1 in
      let e : suc k ≡ y.k = omega arith in
      let low = so.order x.k k (omega arith) (omega arith) in
      let high = so.order k y.k (omega arith) yb in
      let name : name_of (get_or l k 0) ≡ name_of (get_or l (suc k) 0) = rw e (omega arith) in
      let r = least_low l k (omega arith) name in
      let last : word_offset (get_or l (suc k) 0) ≡ word_offset (get_or ws j 0) = rw (e, yi) in
      omega arith)
      (le_or_lt y.k x.k)

  -- and of two neighbours of one name the right one is a repeat
  pub neighbour_repeat : (p : ℕ) → Neighbours (sorted ws) p → (j : ℕ) × (j < length ws) × (repeats [] ws j ≡ true) × (p ≡ word_offset (get_or ws j 0))
  neighbour_repeat p m =
      let l = sorted ws in
      let k = m.k in
      let b = m.below in
      let same = m.same in
      let x = of_sorted ws k (omega arith) in
      let y = of_sorted ws (suc k) b in
      let xi = x.is in
      let yi = y.is in
      let xb = x.below in
      let le = (sorted_in_order ws).order k (suc k) (omega arith) b in
      let ne = distinct_at l (distinct_sorted ws (distinct_all ws a)) k b in
      let lt : get_or l k 0 < get_or l (suc k) 0 = ⊎_elim (λ (e : get_or l k 0 ≡ get_or l (suc k) 0). absurd (ne e)) (λ (o : get_or l k 0 ≡ get_or l (suc k) 0 → ⊥). omega arith)
      (eq_or_ne (get_or l k 0) (get_or l (suc k) 0)) in
      let less : x.k < y.k = ⊎_elim (λ (h : y.k ≤ x.k). absurd (behind x.k y.k h xb (omega arith))) (λ (h : x.k < y.k). h) (le_or_lt y.k x.k) in
      (y.k, y.below, pair_repeats [] ws x.k y.k less y.below (omega arith), m.place ∙ rw yi)
    where
      behind : (i j : ℕ) → j ≤ i → i < length ws → word_offset (get_or ws i 0) < word_offset (get_or ws j 0) → ⊥
      behind i j h b less =
          ⊎_elim (λ (e : j ≡ i). let z : get_or ws j 0 ≡ get_or ws i 0 = rw e in omega arith)
          (λ (o : j ≡ i → ⊥). let up = a.up j i (omega arith) b in omega arith) (eq_or_ne j i)

-- ---- the first repeat in the file's order has the least place
-- p is the place of word j, and that is what `word_twice` answers
pub record First (start : ℕ) (ws : List ℕ) (p : ℕ) : Type 0 where
  pub j : ℕ
  pub below : j < length ws
  pub place : p ≡ word_offset (get_or ws j 0)
  pub is : word_twice start [] ws ≡ record { index = start + j; offset = p }

placed : (k p q : ℕ) → p ≡ q → ◌≡◌ {A = Repeat} (record { index = k; offset = p }) (record { index = k; offset = q })
placed k p q e = rw e

pub twice_least : (start : ℕ) (ws : List ℕ) → Ascending ws
    → ((least_repeat (sorted ws) ≡ name_weight) × (word_twice start [] ws ≡ record { index = 0; offset = 0 })) ⊎ First start ws (least_repeat (sorted ws))
twice_least start ws a =
    let p = least_repeat (sorted ws) in
    ⊎_elim (λ (e : p ≡ name_weight). inl (e, twice_no start [] ws (λ (j : ℕ) (is : repeats [] ws j ≡ true). let low = repeat_low ws a j is in omega arith)))
    (λ (m : Neighbours (sorted ws) p).
    let r = neighbour_repeat ws a p m in
    let j = r.0 in
    let place = r.3 in
    inr (record {
      j = j;
      below = r.1;
      place = place;
      is =
          twice_first start [] ws j r.2
          (λ (i : ℕ) (less : i < j) (is : repeats [] ws i ≡ true).
          let low = repeat_low ws a i is in
          let up = a.up i j less r.1 in
          omega arith)
          ∙ sym (placed (start + j) p (word_offset (get_or ws j 0)) place);
    }))
    (least_met (sorted ws))
