-- Laws of the walk over the items of the result. Assumes nothing.
use Prim.Native.Nat.{ℕ, suc, ◌+◌, ◌-◌, ◌/◌, ◌≤◌, ◌<◌}
use mathlib.Core.List.{List, [], ◌∷◌}
use mathlib.Core.Path.{◌≡◌}
use native.Mathlib.Nat.{add-zero}
use native.Mathlib.Numerals.{add-one}
use native.Mathlib.Omega.{arith}
use borrow.Author.Tests.{ne_eqb, eq-eqb}
use Rattle.words.specs.Words.{word_at, words_in}
use Rattle.items.specs.Word.{name_of, name_weight}
use Rattle.merge.specs.Area.{words_back}
use Rattle.merge.specs.Places.{joined, places_from, Headed}

front_word : (s : List ℕ) (i n w : ℕ) → i < n → w ≡ word_at s i → words_in s i (n - i) ≡ w ∷ words_in s (i + 1) (n - (i + 1))
unfolding words_in
front_word s i n w h e = let m : n - i ≡ suc (n - (i + 1)) = omega arith in rw (m, e, add-one i)

back_word : (s : List ℕ) (h j n m : ℕ) → j < n → m ≡ word_at s (h - j - 1) → words_back s (h - j) (n - j) ≡ m ∷ words_back s (h - (j + 1)) (n - (j + 1))
unfolding words_back
back_word s h j n m less e =
    let k : n - j ≡ suc (n - (j + 1)) = omega arith in
    let f : h - j - 1 ≡ h - (j + 1) = omega arith in
    rw (k, e, f)

back_none : (s : List ℕ) (e j n : ℕ) → j ≡ n → words_back s e (n - j) ≡ []
unfolding words_back
back_none s e j n h = let z : n - j ≡ 0 = omega arith in rw z

module _ (s : List ℕ) (h count edits i j w : ℕ) (more : i < count) (is : w ≡ word_at s i) where
  pub item_last : j ≡ edits → Headed s h count edits i j (record { word = w; change = 0; by = 0 })
  unfolding places_from joined
  item_last e = record {
    is = rw (front_word s i count w more is, add-zero j, back_none s (h - j) j edits e);
    one = omega arith;
    left = omega arith;
  }

  module _ (m : ℕ) (there : m ≡ word_at s (h - j - 1)) (some : j ≡ edits → ⊥) (few : j ≤ edits) where
    below : j < edits
    below = omega arith

    pub item_changed : w / name_weight ≡ m / name_weight → Headed s h count edits i j (record { word = w; change = 1; by = m })
    unfolding places_from joined
    item_changed e = record {
      is = rw (front_word s i count w more is, back_word s h j edits m below there, eq-eqb (name_of w) (name_of m) e);
      one = omega arith;
      left = omega (arith, below);
    }

    pub item_other : (w / name_weight ≡ m / name_weight → ⊥) → Headed s h count edits i j (record { word = w; change = 0; by = 0 })
    unfolding places_from joined
    item_other ne = record {
      is = rw (front_word s i count w more is, add-zero j, back_word s h j edits m below there, ne_eqb (name_of w) (name_of m) ne);
      one = omega arith;
      left = omega arith;
    }
