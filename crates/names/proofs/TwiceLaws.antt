-- Laws of the pass over the sorted words, and of its answer as `twice` takes it. Assumes nothing.
use Prim.Native.Nat.{ℕ, suc, ◌+◌, ◌-◌, ◌≤◌, ◌<◌}
use mathlib.Core.Bool.{Bool, true, false}
use mathlib.Core.List.{List, []}
use mathlib.Core.Logic.{⊎_elim}
use mathlib.Core.Path.{◌≡◌, refl, sym, ap, ◌∙◌}
use native.Mathlib.Numerals.{add-one}
use native.Mathlib.Omega.{arith}
use lib.ListN.{length}
use borrow.Author.Tests.{eq-eqb, ne_eqb}
use Rattle.std.specs.Prelude.{Option, Some, None}
use Rattle.octets.proofs.Cases.{eq_or_ne}
use Rattle.items.specs.Word.{name_weight}
use Rattle.iso8211.specs.File.{record_at}
use Rattle.words.specs.Words.{word_at, words_in}
use Rattle.words.specs.Order.{sorted}
use Rattle.names.specs.NameWords.{name_words, word_twice}
use Rattle.names.specs.Premises.{Readable}
use Rattle.names.specs.Names.{first_item, twice_of, met_twice}
use Rattle.names.specs.declared.twice.Repeat.{Repeat}
use Rattle.names.specs.Neighbours.{lower, least_from, least_repeat}
use Rattle.names.proofs.WalkLaws.{at_inside}
use Rattle.names.proofs.ItemsLaws.{twice_words}
use Rattle.names.proofs.NamesLaws.{names_length, names_place, ascending}
use Rattle.names.proofs.NeighboursLaws.{First, twice_least}

-- ---- the pass
pub pass_none : (s : List ℕ) (m : ℕ) → m ≡ 0 → name_weight ≡ least_repeat (words_in s 0 m)
unfolding least_repeat words_in
pass_none s m e = rw e

start_at_lem : (s : List ℕ) (m d left : ℕ) → m ≡ suc d → left ≡ word_at s 0 → least_repeat (words_in s 0 m) ≡ least_from name_weight left (words_in s 1 d)
unfolding least_repeat words_in
start_at_lem s m d left e l = rw (e, l)

pub pass_start : (s : List ℕ) (m left : ℕ) → (m ≡ 0 → ⊥) → left ≡ word_at s 0 → least_repeat (words_in s 0 m) ≡ least_from name_weight left (words_in s 1 (m - 1))
pass_start s m left some l = start_at_lem s m (m - 1) left (omega arith) l

turn_at : (s : List ℕ) (i n d least left right low : ℕ) → n ≡ suc d → right ≡ word_at s i → low ≡ lower least left right
    → least_from least left (words_in s i n) ≡ least_from low right (words_in s (i + 1) d)
unfolding least_from words_in
turn_at s i n d least left right low e r l = rw (e, l, r, add-one i)

pub pass_turn : (s : List ℕ) (m i least left right low all : ℕ) → i < m → all ≡ least_from least left (words_in s i (m - i)) → right ≡ word_at s i → low ≡ lower least left right
    → all ≡ least_from low right (words_in s (i + 1) (m - (i + 1)))
pass_turn s m i least left right low all more so r l = so ∙ turn_at s i (m - i) (m - (i + 1)) least left right low (omega arith) r l

end_at : (s : List ℕ) (i n least left : ℕ) → n ≡ 0 → least_from least left (words_in s i n) ≡ least
unfolding least_from words_in
end_at s i n least left e = rw e

pub pass_done : (s : List ℕ) (m i least left all : ℕ) → m ≤ i → all ≡ least_from least left (words_in s i (m - i)) → least ≡ all
pass_done s m i least left all past so = sym (so ∙ end_at s i (m - i) least left (omega arith))

-- ---- the answer
first_two : (update : Bool) → 2 ≤ first_item update
unfolding first_item
first_two true = omega arith
first_two false = omega arith

module _ (update : Bool) (s area : List ℕ) (n first least : ℕ) (known : Readable update s n)
    (order : words_in area 0 (n - first_item update) ≡ sorted (name_words update s n)) (is : first ≡ first_item update)
    (passed : least ≡ least_repeat (words_in area 0 (n - first))) where
  of_words : least ≡ least_repeat (sorted (name_words update s n))
  of_words = passed ∙ rw is (ap least_repeat order)

  first_of : (least ≡ name_weight → ⊥) → First (first_item update) (name_words update s n) least
  first_of some =
      let ws = name_words update s n in
      let p = of_words in
      ⊎_elim (λ (alone : (least_repeat (sorted ws) ≡ name_weight) × (word_twice (first_item update) [] ws ≡ record { index = 0; offset = 0 })). absurd (some (p ∙ alone.0)))
      (λ (f : First (first_item update) ws (least_repeat (sorted ws))). rw p f)
      (twice_least (first_item update) ws (ascending update s n known))

  -- the record that starts there
  place_of : (some : least ≡ name_weight → ⊥) → least ≡ record_at s (first_item update + (first_of some).j)
  place_of some =
      let f = first_of some in
      f.place ∙ names_place update s n known f.j (rw (names_length update s n) at f.below)

  index_low : (some : least ≡ name_weight → ⊥) → first_item update + (first_of some).j < n
  index_low some =
      let f = first_of some in
      let low : f.j < n - first_item update = rw (names_length update s n) at f.below in
      omega arith

  words_tell : twice_of update s n ≡ word_twice (first_item update) [] (name_words update s n)
  words_tell = twice_words s n known.framed known.short update known.head

  none_is : least ≡ name_weight → record { index = 0; offset = 0 } ≡ twice_of update s n
  none_is none =
      let ws = name_words update s n in
      let p = of_words in
      ⊎_elim (λ (alone : (least_repeat (sorted ws) ≡ name_weight) × (word_twice (first_item update) [] ws ≡ record { index = 0; offset = 0 })). sym (words_tell ∙ alone.1))
      (λ (f : First (first_item update) ws (least_repeat (sorted ws))). let place = f.place in absurd (omega arith))
      (twice_least (first_item update) ws (ascending update s n known))

  pub twice_none : least ≡ name_weight → None ≡ met_twice (twice_of update s n)
  unfolding met_twice
  twice_none none = rw (← none_is none) refl

  pub twice_inside : (least ≡ name_weight → ⊥) → least < length s
  twice_inside some = at_inside s n (first_item update + (first_of some).j) least known.framed (index_low some) (place_of some)

  pub twice_is : (index : ℕ) → (least ≡ name_weight → ⊥) → ((k : ℕ) → k < n → least ≡ record_at s k → index ≡ k)
      → Some (record { index = index; offset = least }) ≡ met_twice (twice_of update s n)
  unfolding met_twice
  twice_is index some at =
      let f = first_of some in
      let e = at (first_item update + f.j) (index_low some) (place_of some) in
      let is : record { index = index; offset = least } ≡ twice_of update s n = rw e (sym (words_tell ∙ f.is)) in
      let low = first_two update in
      let past : index ≡ 0 → ⊥ = λ z. omega arith in
      rw (← is, ne_eqb index 0 past) refl

-- ---- the answer read back
pub met_none : (t : Repeat) {r : Option Repeat} → r ≡ met_twice t → r ≡ None → t.index ≡ 0
unfolding met_twice
met_none t {r} e h =
    ⊎_elim (λ (z : t.index ≡ 0). z) (λ (some : t.index ≡ 0 → ⊥). absurd (let q : r ≡ Some t = rw (ne_eqb _ _ some) at e in cc)) (eq_or_ne t.index 0)

pub met_some : (t : Repeat) {r : Option Repeat} {w : Repeat} → r ≡ met_twice t → r ≡ Some w → (w ≡ t) × (t.index ≡ 0 → ⊥)
unfolding met_twice
met_some t {r} {w} e h =
    ⊎_elim (λ (z : t.index ≡ 0). absurd (let q : r ≡ None = rw (eq-eqb _ _ z) at e in cc))
    (λ (some : t.index ≡ 0 → ⊥). let q : r ≡ Some t = rw (ne_eqb _ _ some) at e in (cc, some)) (eq_or_ne t.index 0)
