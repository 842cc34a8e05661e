-- The words of the result serve the look-ups as those of a cell do. Assumes nothing.
use Prim.Native.Nat.{ℕ, ◌+◌, ◌-◌}
use mathlib.Core.Bool.{Bool, true, false, cond, ◌||◌}
use mathlib.Core.List.{List, [], ◌∷◌, map}
use mathlib.Core.Path.{◌≡◌, refl, sym, ap, ◌∙◌, fun_ext}
use native.Mathlib.Nat.{sub-zero}
use lib.Dec.{eqb}
use Rattle.std.specs.Prelude.{Option, Some, None}
use Rattle.words.specs.Words.{words_in}
use Rattle.items.specs.Word.{name_of, word_offset}
use Rattle.items.specs.Item.{Item, item_name}
use Rattle.lookups.specs.LookupWords.{lookup, index_from, index_of}
use Rattle.names.specs.Held.{place_from, place_in}
use Rattle.merge.specs.Words.{has_name}
use Rattle.merge.specs.Area.{words_back}
use Rattle.merge.specs.Places.{joined, single, double, thing_of, places_from, places_of}
use Rattle.merge.specs.Meant.{AllKeyed, keyed_none, keyed_more}
use Rattle.merge.proofs.JoinedLaws.{joined_map}

-- ---- a name is found just if a word has it
unfoldable is_found : Option ℕ → Bool
is_found None = false
is_found (Some p) = true

found_name : (ws : List ℕ) (name : ℕ) → has_name name ws ≡ is_found (lookup ws name)
unfolding lookup has_name is_found
found_name [] name = refl
found_name (w ∷ ws) name = pick (eqb (name_of w) name) (found_name ws name) where
  pick : (z : Bool) → has_name name ws ≡ is_found (lookup ws name) → (z || has_name name ws) ≡ is_found (cond z (Some (word_offset w)) (lookup ws name))
  pick true rest = refl
  pick false rest = rest

pub lookup_has : (ws : List ℕ) (name p : ℕ) → lookup ws name ≡ Some p → has_name name ws ≡ true
unfolding is_found
lookup_has ws name p e = found_name ws name ∙ ap is_found e

pub lookup_not : (ws : List ℕ) (name : ℕ) → lookup ws name ≡ None → has_name name ws ≡ false
unfolding is_found
lookup_not ws name e = found_name ws name ∙ ap is_found e

-- ---- a name has among the items of the result the index that it has among the words
place_pick : (k name : ℕ) (x y : Item) (p q : List Item) (f : Option ℕ) (w : ℕ) (z : Bool) → item_name x ≡ name_of w → item_name y ≡ name_of w
    → place_from (k + 1) p name ≡ f → place_from (k + 1) q name ≡ f → place_from k (cond z (x ∷ p) (y ∷ q)) name ≡ cond (eqb (name_of w) name) (Some k) f
unfolding place_from
place_pick k name x y p q f w true e g a b = rw (e, a)
place_pick k name x y p q f w false e g a b = rw (g, b)

module _ (one : ℕ → Item) (edit : ℕ → Item → Item) (keep : (u : ℕ) (i : Item) → item_name (edit u i) ≡ item_name i) where
  place_joined : (k : ℕ) (ws ms : List ℕ) (name : ℕ) → AllKeyed item_name one ws
      → place_from k (joined one (λ (w m : ℕ). edit m (one w)) ws ms) name ≡ index_from k ws name
  unfolding place_from index_from joined
  place_joined k [] ms name keyed_none = refl
  place_joined k (w ∷ ws) [] name (keyed_more e all) = rw (e, place_joined (k + 1) ws [] name all)
  place_joined k (w ∷ ws) (m ∷ ms) name (keyed_more e all) =
      place_pick k name (edit m (one w)) (one w) (joined one (λ (w m : ℕ). edit m (one w)) ws ms) (joined one (λ (w m : ℕ). edit m (one w)) ws (m ∷ ms))
      (index_from (k + 1) ws name) w (eqb (name_of w) (name_of m)) (keep m (one w) ∙ e) e (place_joined (k + 1) ws ms name all)
      (place_joined (k + 1) ws (m ∷ ms) name all)

  pub result_index : (s : List ℕ) (end count edits : ℕ) → AllKeyed item_name one (words_in s 0 count)
      → place_in (map (thing_of one edit) (places_of s end count edits)) ≡ index_of (words_in s 0 count)
  unfolding place_in index_of places_of places_from
  result_index s end count edits all =
      fun_ext (λ (name : ℕ).
      ap (λ (l : List Item). place_from 0 l name) (sym (joined_map (thing_of one edit) single double (words_in s 0 (count - 0)) (words_back s (end - 0) (edits - 0))))
      ∙ rw (sub-zero count) (place_joined 0 (words_in s 0 count) (words_back s (end - 0) (edits - 0)) name all))
