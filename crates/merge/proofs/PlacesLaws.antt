-- What the walk meets: an item for each word, whatever stands between the words and the modifies, and the end of the walk. Assumes nothing.
use Prim.Native.Nat.{ℕ, suc, ◌+◌, ◌-◌, ◌*◌, ◌≤◌, ◌<◌}
use mathlib.Core.Bool.{Bool, true, false, cond}
use mathlib.Core.List.{List, [], ◌∷◌}
use mathlib.Core.Path.{◌≡◌, refl, ap, ◌∙◌}
use native.Mathlib.Nat.{sub-zero}
use native.Mathlib.Omega.{arith}
use lib.Dec.{eqb}
use lib.ListN.{length, take, drop}
use Rattle.words.specs.Words.{words_in, put_at}
use Rattle.words.proofs.WordsLaws.{words_length, words_front, word_back, words_put_behind}
use Rattle.items.specs.Word.{name_of}
use Rattle.merge.specs.Area.{words_back}
use Rattle.merge.specs.Places.{joined, single, double, places_from, places_of}
use Rattle.merge.proofs.WeaveLaws.{back_same, back_put}

pick_length : {A : Type 0} (z : Bool) (x y : A) (p q : List A) (k : ℕ) → length p ≡ k → length q ≡ k → length (cond z (x ∷ p) (y ∷ q)) ≡ suc k
pick_length true x y p q k e f = ap suc e
pick_length false x y p q k e f = ap suc f

joined_length : {A : Type 0} (one : ℕ → A) (both : ℕ → ℕ → A) (ws ms : List ℕ) → length (joined one both ws ms) ≡ length ws
unfolding joined
joined_length one both [] ms = refl
joined_length one both (w ∷ ws) [] = ap suc (joined_length one both ws [])
joined_length one both (w ∷ ws) (m ∷ ms) =
    pick_length (eqb (name_of w) (name_of m)) (both w m) (one w) (joined one both ws ms) (joined one both ws (m ∷ ms)) (length ws)
    (joined_length one both ws ms) (joined_length one both ws (m ∷ ms))

module _ (s : List ℕ) (end count edits : ℕ) where
  -- as many items as words
  pub places_length : length (places_of s end count edits) ≡ count
  unfolding places_of places_from
  places_length =
      joined_length single double (words_in s 0 (count - 0)) (words_back s (end - 0) (edits - 0)) ∙ words_length s 0 (count - 0) ∙ sub-zero count

  -- the walk begins with all of them
  pub places_start : places_from s end count edits 0 0 ≡ places_of s end count edits
  unfolding places_of
  places_start = refl

  -- and ends behind the last
  pub places_end : (i j : ℕ) → count ≤ i → places_from s end count edits i j ≡ []
  unfolding places_from joined words_in
  places_end i j h = let z : count - i ≡ 0 = omega arith in rw z

  module _ (i j : ℕ) (few : count + edits ≤ end) (low : i ≤ count) (left : j ≤ edits) where
    -- they hang on the words and the modifies alone
    pub places_kept : (t : List ℕ) → take (8 * count) t ≡ take (8 * count) s → drop (8 * (end - edits)) t ≡ drop (8 * (end - edits)) s
        → places_from t end count edits i j ≡ places_from s end count edits i j
    unfolding places_from
    places_kept t front back =
        rw (
          words_front t s count i (count - i) front (omega arith),
          back_same t s (end - j) (edits - j) (omega arith) (λ k high less. word_back t s (end - edits) k back (omega arith)),
        )

    -- so a note between them changes nothing
    pub places_put : (p w : ℕ) → 8 * end ≤ length s → count ≤ p → p + edits < end
        → places_from (put_at s p w) end count edits i j ≡ places_from s end count edits i j
    unfolding places_from
    places_put p w room high less =
        rw (words_put_behind s p i (count - i) w (omega arith) (omega arith), back_put s p (end - j) (edits - j) w (omega arith) (omega arith))
