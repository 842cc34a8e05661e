-- The items of a file and the words of its names tell the same: words in order stand for items in held order, and a name is met twice among the
-- items where it is among the words. Assumes nothing.
use Prim.Native.Nat.{ℕ, zero, suc, ◌+◌, ◌-◌, ◌≤◌, ◌<◌}
use mathlib.Core.Bool.{Bool, true, false}
use mathlib.Core.List.{List, [], ◌∷◌, map}
use mathlib.Core.Logic.{⊎_elim}
use mathlib.Core.Path.{◌≡◌, refl, sym, ap, ◌∙◌}
use native.Mathlib.Omega.{arith}
use lib.ListN.{length}
use lib.Dec.{leb}
use borrow.Author.Tests.{le-leb, lt-leb}
use Rattle.std.specs.Prelude.{Ok}
use Rattle.octets.specs.Lists.{is_in}
use Rattle.octets.proofs.Cases.{true_or_false, le_or_lt}
use Rattle.iso8211.specs.Record.{end_of}
use Rattle.iso8211.specs.File.{frame_of, record_at}
use Rattle.iso8211.proofs.Promise.{at_start, at_next}
use Rattle.words.specs.Order.{insert, sorted}
use Rattle.items.specs.Identity.{name_at, word_for}
use Rattle.items.specs.Word.{name_of, word_offset, name_weight}
use Rattle.items.specs.Item.{Item, item_at, item_name}
use Rattle.items.proofs.IdentityLaws.{word_name, word_offset_lem}
use Rattle.names.specs.NameWords.{words_from, name_words, word_twice, items_at}
use Rattle.names.specs.Names.{first_item, items_from, twice_from, first_twice, twice_of}
use Rattle.names.specs.Held.{insert_by, order_by, held_items, offsets_from, held_offsets}
use Rattle.names.specs.declared.twice.Repeat.{Repeat}
use Rattle.names.proofs.WalkLaws.{at_order, at_inside}

-- ---- words, and what they stand for by f, put in order by its name
module _ {A : Type 0} (f : ℕ → A) (name : A → ℕ) where
  -- each word has the name of what it stands for, and a place above p
  data Told (p : ℕ) : List ℕ → Type 0 where
    told_none : Told p []
    told_more : {w : ℕ} {ws : List ℕ} → p < word_offset w → name_of w ≡ name (f w) → Told p ws → Told p (w ∷ ws)

  -- and the places ascend
  data Rising : List ℕ → Type 0 where
    rising_none : Rising []
    rising_more : {w : ℕ} {ws : List ℕ} → name_of w ≡ name (f w) → Told (word_offset w) ws → Rising ws → Rising (w ∷ ws)

  insert_told : {p : ℕ} (w : ℕ) {ws : List ℕ} → p < word_offset w → name_of w ≡ name (f w) → Told p ws → Told p (insert w ws)
  unfolding insert
  insert_told w less is told_none = told_more less is told_none
  insert_told w less is (told_more {w = y} {ws = ys} above named more) =
      ⊎_elim (λ (e : leb w y ≡ true). rw e (told_more less is (told_more above named more)))
      (λ (e : leb w y ≡ false). rw e (told_more above named (insert_told w less is more))) (true_or_false (leb w y))

  sorted_told : {p : ℕ} {ws : List ℕ} → Told p ws → Told p (sorted ws)
  unfolding sorted
  sorted_told told_none = told_none
  sorted_told (told_more {w = w} less is more) = insert_told w less is (sorted_told more)

  -- of two words of one name the one with the lower place comes first
  leb_names : (w y : ℕ) → word_offset w < word_offset y → leb w y ≡ leb (name_of w) (name_of y)
  leb_names w y less =
      ⊎_elim (λ (h : w ≤ y). rw (le-leb w y h, le-leb (name_of w) (name_of y) (omega arith)))
      (λ (h : y < w). rw (lt-leb w y h, lt-leb (name_of w) (name_of y) (omega arith))) (le_or_lt w y)

  insert_by_lem : (w : ℕ) {ws : List ℕ} → name_of w ≡ name (f w) → Told (word_offset w) ws → map f (insert w ws) ≡ insert_by name (f w) (map f ws)
  unfolding insert insert_by
  insert_by_lem w is told_none = refl
  insert_by_lem w is (told_more {w = y} {ws = ys} above named more) =
      let same : leb w y ≡ leb (name (f w)) (name (f y)) = leb_names w y above ∙ rw (is, named) in
      ⊎_elim (λ (e : leb (name (f w)) (name (f y)) ≡ true). rw (same, e))
      (λ (e : leb (name (f w)) (name (f y)) ≡ false). rw (same, e, insert_by_lem w is more)) (true_or_false (leb (name (f w)) (name (f y))))

  order_by_lem : {ws : List ℕ} → Rising ws → map f (sorted ws) ≡ order_by name (map f ws)
  unfolding sorted order_by
  order_by_lem rising_none = refl
  order_by_lem (rising_more {w = w} is told more) = insert_by_lem w is (sorted_told told) ∙ ap (insert_by name (f w)) (order_by_lem more)

-- ---- the words of a file
module _ (s : List ℕ) (n : ℕ) (framed : frame_of s ≡ Ok n) (short : length s ≤ 5242880) where
  place_low : (k : ℕ) → k < n → record_at s k < name_weight
  place_low k h = omega (arith, at_inside s n k (record_at s k) framed h refl)

  place_at : (k : ℕ) → k < n → word_offset (word_for s (record_at s k)) ≡ record_at s k
  place_at k h = word_offset_lem s (record_at s k) (place_low k h)

  pub name_at_lem : (k : ℕ) → k < n → name_of (word_for s (record_at s k)) ≡ item_name (item_at s (record_at s k))
  unfolding name_at
  name_at_lem k h = word_name s (record_at s k) (place_low k h)

  module _ {A : Type 0} (f : ℕ → A) (name : A → ℕ) (same : (w : ℕ) → name (f w) ≡ name_at s (word_offset w)) where
    named_at : (k : ℕ) → k < n → name_of (word_for s (record_at s k)) ≡ name (f (word_for s (record_at s k)))
    named_at k h =
        word_name s (record_at s k) (place_low k h) ∙ ap (λ (at : ℕ). name_at s at) (sym (place_at k h)) ∙ sym (same (word_for s (record_at s k)))

    words_told : (m j k : ℕ) → j < k → k + m ≡ n → Told f name (record_at s j) (words_from m s (record_at s k))
    unfolding words_from
    words_told zero j k less all = told_none
    words_told (suc m) j k less all =
        told_more {w = word_for s (record_at s k)} {ws = words_from m s (end_of s (record_at s k))} (rw (place_at k (omega arith)) (at_order s n j k framed less (omega arith)))
        (named_at k (omega arith))
        (rw (at_next s k (record_at s k) refl) (words_told m j (k + 1) (omega arith) (omega arith)))

    words_rising : (m k : ℕ) → k + m ≡ n → Rising f name (words_from m s (record_at s k))
    unfolding words_from
    words_rising zero k all = rising_none
    words_rising (suc m) k all =
        rising_more {ws = words_from m s (end_of s (record_at s k))} (named_at k (omega arith))
        (rw (place_at k (omega arith), at_next s k (record_at s k) refl) (words_told m k (k + 1) (omega arith) (omega arith)))
        (rw (at_next s k (record_at s k) refl) (words_rising m (k + 1) (omega arith)))

  words_items : (m k : ℕ) → k + m ≡ n → map (λ (w : ℕ). item_at s (word_offset w)) (words_from m s (record_at s k)) ≡ items_from m s (record_at s k)
  unfolding words_from items_from
  words_items zero k all = refl
  words_items (suc m) k all = rw (place_at k (omega arith), at_next s k (record_at s k) refl, words_items m (k + 1) (omega arith))

  words_places : (m k : ℕ) → k + m ≡ n → map (λ (w : ℕ). word_offset w) (words_from m s (record_at s k)) ≡ offsets_from m s (record_at s k)
  unfolding words_from offsets_from
  words_places zero k all = refl
  words_places (suc m) k all = rw (place_at k (omega arith), at_next s k (record_at s k) refl, words_places m (k + 1) (omega arith))

  -- ---- a cell in held order
  map_items : (ws : List ℕ) → map (λ (w : ℕ). item_at s (word_offset w)) ws ≡ items_at s ws
  unfolding items_at
  map_items [] = refl
  map_items (w ∷ ws) = ap (λ (is : List Item). item_at s (word_offset w) ∷ is) (map_items ws)

  item_name_lem : (w : ℕ) → item_name (item_at s (word_offset w)) ≡ name_at s (word_offset w)
  unfolding name_at
  item_name_lem w = refl

  pub held_items_lem : 3 ≤ n → items_at s (sorted (name_words false s n)) ≡ held_items s n
  unfolding name_words first_item held_items
  held_items_lem three =
      let f : ℕ → Item = λ (w : ℕ). item_at s (word_offset w) in
      let name : Item → ℕ = λ (i : Item). item_name i in
      sym (map_items (sorted (words_from (n - 3) s (record_at s 3)))) ∙ order_by_lem f name (words_rising f name item_name_lem (n - 3) 3 (omega arith))
      ∙ ap (order_by name) (words_items (n - 3) 3 (omega arith))

  pub held_places : 3 ≤ n → map (λ (w : ℕ). word_offset w) (sorted (name_words false s n)) ≡ held_offsets s n
  unfolding name_words first_item held_offsets
  held_places three =
      let f : ℕ → ℕ = λ (w : ℕ). word_offset w in
      order_by_lem f (name_at s) (words_rising f (name_at s) (λ (w : ℕ). refl) (n - 3) 3 (omega arith)) ∙ ap (order_by (name_at s)) (words_places (n - 3) 3 (omega arith))

  -- ---- a name met twice
  unfoldable placed : ℕ → Repeat
  placed k = record { index = k; offset = record_at s k }

  words_twice : (m k : ℕ) (seen : List ℕ) → k + m ≡ n → placed (twice_from k seen (items_from m s (record_at s k))) ≡ word_twice k seen (words_from m s (record_at s k))
  unfolding items_from words_from twice_from word_twice placed
  words_twice zero k seen all = let e : record_at s 0 ≡ 0 = sym (at_start s) in rw e
  words_twice (suc m) k seen all =
      let at = record_at s k in
      let name = name_at_lem k (omega arith) in
      ⊎_elim (λ (e : is_in (item_name (item_at s at)) seen ≡ true). rw (name, place_at k (omega arith), e))
      (λ (e : is_in (item_name (item_at s at)) seen ≡ false).
      rw (name, e, at_next s k at refl) (words_twice m (k + 1) (item_name (item_at s at) ∷ seen) (omega arith)))
      (true_or_false (is_in (item_name (item_at s at)) seen))

  pub twice_words : (update : Bool) → first_item update ≤ n → twice_of update s n ≡ word_twice (first_item update) [] (name_words update s n)
  unfolding twice_of first_twice name_words placed
  twice_words update some = words_twice (n - first_item update) (first_item update) [] (omega arith)
