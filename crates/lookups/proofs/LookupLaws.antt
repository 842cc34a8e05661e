-- Laws of the look-up: where the words before a place have smaller names, the first word of a name is told by the place; and what the
-- search by halving answers. Assumes nothing.
use Prim.Native.Nat.{ℕ, zero, suc, ◌+◌, ◌-◌, ◌*◌, ◌/◌, ◌%◌, ◌≤◌, ◌<◌}
use mathlib.Core.Bool.{Bool, true, false, cond, ◌||◌}
use mathlib.Core.List.{List, [], ◌∷◌}
use mathlib.Core.Logic.{◌⊎◌, inl, inr, ⊎_elim}
use mathlib.Core.Path.{◌≡◌, refl, sym, ap, ◌∙◌}
use native.Mathlib.Nat.{add-zero, zero-add, add_assoc}
use native.Mathlib.Omega.{arith}
use lib.Dec.{eqb}
use lib.ListN.{length, get_or}
use borrow.Author.Tests.{eq-eqb, ne_eqb, eqb-true}
use Rattle.std.specs.Prelude.{Option, Some, None}
use Rattle.octets.specs.Lists.{is_in}
use Rattle.octets.proofs.Cases.{true_or_false, le_or_lt, eq_or_ne}
use Rattle.words.specs.Words.{word_at, words_in}
use Rattle.words.specs.Order.{Sorted}
use Rattle.words.specs.Find.{first_from}
use Rattle.words.proofs.WordsLaws.{words_length, words_at}
use Rattle.words.proofs.FindLaws.{first_before, first_there, found_end, found_here, found_not}
use Rattle.octets.specs.Premises.{Reads}
use Rattle.items.specs.Identity.{rank_of, name_from}
use Rattle.items.specs.Word.{name_of, word_offset}
use Rattle.items.proofs.IdentityLaws.{num_one, name_small}
use Rattle.lookups.specs.Lookup.{name_in, found_code}
use Rattle.lookups.specs.LookupWords.{lookup, index_from, index_of, FirstTold, WordTold}

-- ---- the name that an entry starts with: c is its class, g the class's rank
pub name_in_read : (e : List ℕ) (c g rcid : ℕ) → Reads e 0 1 c → g ≡ rank_of c → Reads e 1 4 rcid → (g * 4294967296 + rcid ≡ name_in e) × (g * 4294967296 + rcid < 17179869184)
unfolding name_in name_from
name_in_read e c g rcid class rank id =
    let low : rcid < 4294967296 = id.small in
    let is : g * 4294967296 + rcid ≡ name_from c rcid = rw rank in
    (rw (← num_one e 0, ← class.is, ← id.is, rank), rw is (name_small c rcid low))

-- ---- the index, told by the names
-- no word has it
pub index_none : (k : ℕ) (ws : List ℕ) (name : ℕ) → ((p : ℕ) → p < length ws → name_of (get_or ws p 0) ≡ name → ⊥) → index_from k ws name ≡ None
unfolding index_from
index_none k [] name h = refl
index_none k (w ∷ ws) name h = rw (ne_eqb (name_of w) name (h 0 (omega arith)), index_none (k + 1) ws name (λ p b. h (suc p) (omega arith)))

-- word i has it, and none before
pub index_here : (k : ℕ) (ws : List ℕ) (name i : ℕ) → i < length ws → ((p : ℕ) → p < i → name_of (get_or ws p 0) ≡ name → ⊥) → name_of (get_or ws i 0) ≡ name
    → index_from k ws name ≡ Some (k + i)
unfolding index_from
index_here k [] name i h low is = absurd (omega arith)
index_here k (w ∷ ws) name zero h low is = rw (eq-eqb (name_of w) name is, add-zero k)
index_here k (w ∷ ws) name (suc i) h low is =
    let sum : k + suc i ≡ k + 1 + i = omega arith in
    rw (ne_eqb (name_of w) name (low 0 (omega arith)), sum) (index_here (k + 1) ws name i (omega arith) (λ p b. low (suc p) (omega arith)) is)

-- ---- the place, told by the index
lookup_none_from : (k : ℕ) (ws : List ℕ) (name : ℕ) → index_from k ws name ≡ None → lookup ws name ≡ None
unfolding index_from lookup
lookup_none_from k [] name e = refl
lookup_none_from k (w ∷ ws) name e = by (lookup_none_from (k + 1) ws name) (true_or_false (eqb (name_of w) name)) e
  where
    by : (index_from (k + 1) ws name ≡ None → lookup ws name ≡ None) → (eqb (name_of w) name ≡ true) ⊎ (eqb (name_of w) name ≡ false)
        → cond (eqb (name_of w) name) (Some k) (index_from (k + 1) ws name) ≡ None → cond (eqb (name_of w) name) (Some (word_offset w)) (lookup ws name) ≡ None
    by rest t =
        ⊎_elim (λ (h : eqb (name_of w) name ≡ true). rw h (λ (e : Some k ≡ None). absurd (let z : ◌≡◌ {A = ℕ} 0 1 = cc in omega arith)))
        (λ (h : eqb (name_of w) name ≡ false). rw h rest) t

-- the index is one of the words', and the place is that word's
record Told (k : ℕ) (ws : List ℕ) (name i : ℕ) : Type 0 where
  low : k ≤ i
  less : i - k < length ws
  place : lookup ws name ≡ Some (word_offset (get_or ws (i - k) 0))

lookup_here_from : (k : ℕ) (ws : List ℕ) (name i : ℕ) → index_from k ws name ≡ Some i → Told k ws name i
unfolding index_from lookup
lookup_here_from k [] name i e = absurd (let z : ◌≡◌ {A = ℕ} 0 1 = cc in omega arith)
lookup_here_from k (w ∷ ws) name i e = by (lookup_here_from (k + 1) ws name i) (true_or_false (eqb (name_of w) name)) e
  where
    here : eqb (name_of w) name ≡ true → Some k ≡ Some i → Told k (w ∷ ws) name i
    here h e =
        let same : k ≡ i = cc in
        let none : i - k ≡ 0 = omega arith in
        record { low = omega arith; less = omega arith; place = rw (h, none) }

    later : eqb (name_of w) name ≡ false → Told (k + 1) ws name i → Told k (w ∷ ws) name i
    later h t =
        let low = t.low in
        let less = t.less in
        let next : i - k ≡ suc (i - (k + 1)) = omega arith in
        record { low = omega arith; less = omega arith; place = rw (h, next) t.place }

    by : (index_from (k + 1) ws name ≡ Some i → Told (k + 1) ws name i) → (eqb (name_of w) name ≡ true) ⊎ (eqb (name_of w) name ≡ false)
        → cond (eqb (name_of w) name) (Some k) (index_from (k + 1) ws name) ≡ Some i → Told k (w ∷ ws) name i
    by rest t =
        ⊎_elim (λ (h : eqb (name_of w) name ≡ true). rw h (here h)) (λ (h : eqb (name_of w) name ≡ false). rw h (λ (e : index_from (k + 1) ws name ≡ Some i). later h (rest e))) t

pub lookup_none : (ws : List ℕ) (name : ℕ) → index_of ws name ≡ None → lookup ws name ≡ None
unfolding index_of
lookup_none ws name e = lookup_none_from 0 ws name e

pub lookup_here : (ws : List ℕ) (name i : ℕ) → index_of ws name ≡ Some i → (i < length ws) × (lookup ws name ≡ Some (word_offset (get_or ws i 0)))
unfolding index_of
lookup_here ws name i e = let t = lookup_here_from 0 ws name i e in let same : i - 0 ≡ i = omega arith in (rw same at t.less, rw same at t.place)

-- ---- what an answer tells
-- a place is that of a word that has the name
pub lookup_told : (ws : List ℕ) (name p : ℕ) → lookup ws name ≡ Some p → (i : ℕ) × (i < length ws) × (name_of (get_or ws i 0) ≡ name) × (word_offset (get_or ws i 0) ≡ p)
unfolding lookup
lookup_told [] name p e = absurd (let z : ◌≡◌ {A = ℕ} 0 1 = cc in omega arith)
lookup_told (w ∷ ws) name p e = by (lookup_told ws name p) (true_or_false (eqb (name_of w) name)) e
  where
    later : (i : ℕ) × (i < length ws) × (name_of (get_or ws i 0) ≡ name) × (word_offset (get_or ws i 0) ≡ p)
        → (i : ℕ) × (i < suc (length ws)) × (name_of (get_or (w ∷ ws) i 0) ≡ name) × (word_offset (get_or (w ∷ ws) i 0) ≡ p)
    later t = (suc t.0, (let b = t.1 in omega arith), t.2, t.3)

    by : (lookup ws name ≡ Some p → (i : ℕ) × (i < length ws) × (name_of (get_or ws i 0) ≡ name) × (word_offset (get_or ws i 0) ≡ p))
        → (eqb (name_of w) name ≡ true) ⊎ (eqb (name_of w) name ≡ false) → cond (eqb (name_of w) name) (Some (word_offset w)) (lookup ws name) ≡ Some p
        → (i : ℕ) × (i < suc (length ws)) × (name_of (get_or (w ∷ ws) i 0) ≡ name) × (word_offset (get_or (w ∷ ws) i 0) ≡ p)
    by rest t =
        ⊎_elim (λ (h : eqb (name_of w) name ≡ true). rw h (λ (e : Some (word_offset w) ≡ Some p). (0, omega arith, eqb-true _ _ h, cc)))
        (λ (h : eqb (name_of w) name ≡ false). rw h (λ (e : lookup ws name ≡ Some p). later (rest e))) t

-- nothing: no word has it
pub lookup_lost : (ws : List ℕ) (name i : ℕ) → i < length ws → name_of (get_or ws i 0) ≡ name → lookup ws name ≡ None → ⊥
unfolding lookup
lookup_lost [] name i h is = λ e. omega arith
lookup_lost (w ∷ ws) name zero h is = rw (eq-eqb (name_of w) name is) (λ (e : Some (word_offset w) ≡ None). absurd (let z : ◌≡◌ {A = ℕ} 0 1 = cc in omega arith))
lookup_lost (w ∷ ws) name (suc i) h is = by (lookup_lost ws name i (omega arith) is) (true_or_false (eqb (name_of w) name))
  where
    by : (lookup ws name ≡ None → ⊥) → (eqb (name_of w) name ≡ true) ⊎ (eqb (name_of w) name ≡ false)
        → cond (eqb (name_of w) name) (Some (word_offset w)) (lookup ws name) ≡ None → ⊥
    by rest t =
        ⊎_elim (λ (h : eqb (name_of w) name ≡ true). rw h (λ (e : Some (word_offset w) ≡ None). absurd (let z : ◌≡◌ {A = ℕ} 0 1 = cc in omega arith)))
        (λ (h : eqb (name_of w) name ≡ false). rw h rest) t

pub found_cases : (r : Option ℕ) → (r ≡ None) ⊎ ((p : ℕ) × (r ≡ Some p))
found_cases (Some p) = inr (p, refl)
found_cases None = inl refl

pub code_nothing : found_code None ≡ 18
unfolding found_code
code_nothing = refl

pub code_at : (p : ℕ) → found_code (Some p) ≡ 0
unfolding found_code
code_at p = refl

-- ---- in sorted words: the first word that is not below the name's least has the name, or none has
module _ (l : List ℕ) (name k : ℕ) (first : first_from (name * 16777216) l ≡ k) where
  before : (p : ℕ) → p < k → name_of (get_or l p 0) ≡ name → ⊥
  before p b e = let z = first_before (name * 16777216) l p (omega arith) in omega arith

  pub sorted_end : length l ≤ k → index_of l name ≡ None
  unfolding index_of
  sorted_end h = index_none 0 l name (λ p b. before p (omega arith))

  pub sorted_here : k < length l → name_of (get_or l k 0) ≡ name → index_of l name ≡ Some k
  unfolding index_of
  sorted_here h is = rw zero-add at (index_here 0 l name k h before is)

  pub sorted_not : Sorted l → k < length l → (name_of (get_or l k 0) ≡ name → ⊥) → index_of l name ≡ None
  unfolding index_of
  sorted_not so h ne =
      index_none 0 l name
      (λ p b e.
      let there : name * 16777216 ≤ get_or l k 0 = rw first at (first_there (name * 16777216) l (omega arith)) in
      ⊎_elim (λ (g : k ≤ p). let z = so.order k p g b in ne (omega arith)) (λ (g : p < k). before p g e) (le_or_lt k p))

-- ---- index_of: find's answer r, and the word x read there
module _ (s : List ℕ) (start m name r : ℕ) (is : r ≡ start + first_from (name * 16777216) (words_in s start m)) where
  pub index_end : start + m ≤ r → None ≡ index_of (words_in s start m) name
  index_end h = sym (sorted_end (words_in s start m) name (first_from (name * 16777216) (words_in s start m)) refl (omega (arith, words_length s start m)))

  module _ (x : ℕ) (there : x ≡ word_at s r) (less : r < start + m) where
    word_there : get_or (words_in s start m) (first_from (name * 16777216) (words_in s start m)) 0 ≡ x
    word_there = words_at s start m (first_from (name * 16777216) (words_in s start m)) (omega arith) ∙ rw (← is) (sym there)

    pub index_found : x / 16777216 ≡ name → Some (r - start) ≡ index_of (words_in s start m) name
    index_found h =
        let back : r - start ≡ first_from (name * 16777216) (words_in s start m) = omega arith in
        rw back
        (sym
        (sorted_here (words_in s start m) name (first_from (name * 16777216) (words_in s start m)) refl (omega (arith, words_length s start m))
        (ap (λ (w : ℕ). w / 16777216) word_there ∙ h)))

    pub index_lost : Sorted (words_in s start m) → (x / 16777216 ≡ name → ⊥) → None ≡ index_of (words_in s start m) name
    index_lost so ne =
        sym
        (sorted_not (words_in s start m) name (first_from (name * 16777216) (words_in s start m)) refl so (omega (arith, words_length s start m))
        (λ e. ne (sym (ap (λ (w : ℕ). w / 16777216) word_there) ∙ e)))

-- ---- lookup: the index i that index_of answered, and the word x read there
module _ (s : List ℕ) (start m name : ℕ) (r : Option ℕ) (is : r ≡ index_of (words_in s start m) name) where
  pub place_none : r ≡ None → None ≡ lookup (words_in s start m) name
  place_none e = sym (lookup_none (words_in s start m) name (sym is ∙ e))

  module _ (i : ℕ) (e : r ≡ Some i) where
    pub place_less : i < m
    place_less = let t = lookup_here (words_in s start m) name i (sym is ∙ e) in let b = t.0 in omega (arith, words_length s start m)

    pub place_here : (x : ℕ) → x ≡ word_at s (start + i) → Some (x % 16777216) ≡ lookup (words_in s start m) name
    place_here x there =
        let t = lookup_here (words_in s start m) name i (sym is ∙ e) in
        rw there (rw (← words_at s start m i place_less) (sym t.1))

-- ---- has_word: find's answer r, and the word x read there
pub has_end : (s : List ℕ) (start m w r : ℕ) → r ≡ start + first_from w (words_in s start m) → start + m ≤ r → false ≡ is_in w (words_in s start m)
has_end s start m w r is h = sym (found_end s start m w r is h)

pub has_here : (s : List ℕ) (start m w r x : ℕ) → r ≡ start + first_from w (words_in s start m) → x ≡ word_at s r → r < start + m → Sorted (words_in s start m)
    → eqb x w ≡ is_in w (words_in s start m)
has_here s start m w r x is there less so =
    ⊎_elim (λ (h : x ≡ w). eq-eqb x w h ∙ sym (found_here s start m w r is x there less h))
    (λ (h : x ≡ w → ⊥). ne_eqb x w h ∙ sym (found_not s start m w r is x there less so h))
    (eq_or_ne x w)

-- ---- is_first: a guess that fails tells nothing
never : {A : Type 0} → false ≡ true → A
never e = absurd (let z : ◌≡◌ {A = ℕ} 0 1 = cc in omega arith)

pub first_no : (ws : List ℕ) (name near : ℕ) → FirstTold ws name near false
first_no ws name near = record { is = λ (e : false ≡ true). never e }

-- x is the word read at index `near`, y the one before
module _ (s : List ℕ) (start m name near x : ℕ) (there : x ≡ word_at s (start + near)) (inside : near < m) (named : x / 16777216 ≡ name) where
  word_near : get_or (words_in s start m) near 0 ≡ x
  word_near = words_at s start m near inside ∙ sym there

  guessed : ((p : ℕ) → p < near → name_of (get_or (words_in s start m) p 0) ≡ name → ⊥) → FirstTold (words_in s start m) name near true
  unfolding index_of
  guessed low = record {
    is = λ (e : true ≡ true).
        sym (rw zero-add at (index_here 0 (words_in s start m) name near (omega (arith, words_length s start m)) low (ap (λ (w : ℕ). w / 16777216) word_near ∙ named)));
  }

  pub first_at_front : near ≡ 0 → FirstTold (words_in s start m) name near true
  first_at_front front = guessed (λ p b e. omega arith)

  pub first_behind : (y : ℕ) → (near ≡ 0 → ⊥) → y ≡ word_at s (start + near - 1) → y / 16777216 < name → Sorted (words_in s start m)
      → FirstTold (words_in s start m) name near true
  first_behind y some before low so =
      let same : start + near - 1 ≡ start + (near - 1) = omega arith in
      let word_before : get_or (words_in s start m) (near - 1) 0 ≡ y = words_at s start m (near - 1) (omega arith) ∙ sym (before ∙ ap (λ (i : ℕ). word_at s i) same) in
      guessed (λ p b e. let z = so.order p (near - 1) (omega arith) (omega (arith, words_length s start m)) in omega arith)

-- a guess that holds
pub first_told : (s : List ℕ) (start m name near : ℕ) (r : Bool) → FirstTold (words_in s start m) name near r → r ≡ true
    → Some near ≡ index_of (words_in s start m) name
first_told s start m name near r told e = told.is e

-- ---- is_there
pub word_no : (ws : List ℕ) (w : ℕ) → WordTold ws w false
word_no ws w = record { is = λ (e : false ≡ true). never e }

in_at : (l : List ℕ) (w i : ℕ) → i < length l → get_or l i 0 ≡ w → true ≡ is_in w l
unfolding is_in
in_at [] w i h e = absurd (omega arith)
in_at (x ∷ l) w zero h e = rw (eq-eqb x w e)
in_at (x ∷ l) w (suc i) h e = by (eqb x w) (in_at l w i (omega arith) e)
  where
    by : (b : Bool) → true ≡ is_in w l → true ≡ (b || is_in w l)
    by true h = refl
    by false h = h

pub word_here : (s : List ℕ) (start m w near x : ℕ) → x ≡ word_at s (start + near) → near < m → x ≡ w → WordTold (words_in s start m) w true
word_here s start m w near x there inside same = record {
  is = λ (e : true ≡ true). in_at (words_in s start m) w near (omega (arith, words_length s start m)) (words_at s start m near inside ∙ sym there ∙ same);
}

pub word_told : (s : List ℕ) (start m w : ℕ) (r : Bool) → WordTold (words_in s start m) w r → r ≡ true → true ≡ is_in w (words_in s start m)
word_told s start m w r told e = told.is e

-- ---- about: a part of words in order is in order
pub sorted_part : (s : List ℕ) (from m low n : ℕ) → Sorted (words_in s from m) → low + n ≤ m → Sorted (words_in s (from + low) n)
sorted_part s from m low n all inside = record {
  order = λ p q up less.
      let last : q < n = rw (words_length s (from + low) n) at less in
      let one : word_at s (from + (low + p)) ≡ word_at s (from + low + p) = ap (λ (i : ℕ). word_at s i) (sym (add_assoc from low p)) in
      let two : word_at s (from + (low + q)) ≡ word_at s (from + low + q) = ap (λ (i : ℕ). word_at s i) (sym (add_assoc from low q)) in
      let a = words_at s (from + low) n p (omega arith) in
      let b = words_at s (from + low) n q last in
      let x = words_at s from m (low + p) (omega arith) in
      let y = words_at s from m (low + q) (omega arith) in
      let less_all : low + q < length (words_in s from m) = omega (arith, words_length s from m) in
      let h = all.order (low + p) (low + q) (omega arith) less_all in
      omega (arith, a, b, x, y, one, two, h);
}
