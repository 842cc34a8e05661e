-- The deletes marked, the words woven and the modifies settled: what the area has then. Assumes nothing.
use Prim.Native.Nat.{ℕ, zero, suc, ◌+◌, ◌*◌, ◌<◌}
use mathlib.Core.List.{List, [], ◌∷◌}
use mathlib.Core.Path.{◌≡◌, ◌∙◌}
use native.Mathlib.Nat.{sub-zero}
use native.Mathlib.Omega.{arith}
use lib.ListN.{length, get_or}
use Rattle.words.specs.Words.{words_in}
use Rattle.words.specs.Order.{Sorted}
use Rattle.words.proofs.WordsLaws.{words_front}
use Rattle.words.proofs.OrderLaws.{sorted_cons}
use Rattle.items.specs.Word.{name_of}
use Rattle.names.specs.Premises.{Strict}
use Rattle.merge.specs.Updated.{Over, over_none, over_more, Rising, rise_none, rise_more}
use Rattle.merge.specs.Words.{with_ruins, result_words, modifies}
use Rattle.merge.specs.Area.{words_back, Marks, Halves, Weaves, Settled}
use Rattle.merge.specs.Places.{joined, single, double, places_from, places_of}
use Rattle.merge.specs.Woven.{Warp, Wove}
use Rattle.merge.specs.declared.weave.Woven.{Woven}
use Rattle.merge.proofs.UpdatedLaws.{rising_updated}
use Rattle.merge.proofs.TurnLaws.{words_named, words_made, strict_tail, strict_over}
use Rattle.merge.proofs.RuinLaws.{strict_ruins}

-- ---- rising words, by index and along the list
pub strict_rising : (ws : List ℕ) → Strict ws → Rising (λ (w : ℕ). name_of w) ws
strict_rising [] so = rise_none
strict_rising (w ∷ ws) so = rise_more (strict_over so) (strict_rising ws (strict_tail so))

over_at : (n : ℕ) (ws : List ℕ) → Over (λ (w : ℕ). name_of w) n ws → (q : ℕ) → q < length ws → n < name_of (get_or ws q 0)
over_at n [] over_none q h = absurd (omega arith)
over_at n (w ∷ ws) (over_more k b) zero h = k
over_at n (w ∷ ws) (over_more k b) (suc q) h = over_at n ws b q (omega arith)

pub rising_strict : (ws : List ℕ) → Rising (λ (w : ℕ). name_of w) ws → Strict ws
rising_strict [] rise_none = record { up = λ p q h b. absurd (omega arith) }
rising_strict (w ∷ ws) (rise_more b so) = record { up = up_by (rising_strict ws so) } where
  up_by : Strict ws → (p q : ℕ) → p < q → q < length (w ∷ ws) → name_of (get_or (w ∷ ws) p 0) < name_of (get_or (w ∷ ws) q 0)
  up_by rest p zero less h = absurd (omega arith)
  up_by rest zero (suc q) less h = over_at (name_of w) ws b q (omega arith)
  up_by rest (suc p) (suc q) less h = rest.up p q (omega arith) (omega arith)

pub rising_sorted : (ws : List ℕ) → Rising (λ (w : ℕ). name_of w) ws → Sorted ws
rising_sorted [] rise_none = record { order = λ p q h b. absurd (omega arith) }
rising_sorted (w ∷ ws) (rise_more b so) = sorted_cons w ws (λ q h. let up = over_at (name_of w) ws b q h in omega arith) (rising_sorted ws so)

pub rising_result : (cs us : List ℕ) → Strict cs → Rising (λ (w : ℕ). name_of w) (result_words cs us)
unfolding result_words
rising_result cs us so = rising_updated words_named cs us (words_made us) (strict_rising cs so)

-- ---- the area, step by step
module _ {b work : List ℕ} {n m : ℕ} (warp : Warp b work n m) (h : ℕ) (half : h ≡ n + m) where
  module _ {first : List ℕ} (marks : Marks b work (h + n) m first) where
    marked_cell : words_in first (n + m) n ≡ words_in work (n + m) n
    marked_cell = words_front first work (h + n) (n + m) n marks.front (omega arith)

    marked_update : words_in first (n + m + n) m ≡ with_ruins b (words_in work (n + m + n) m)
    marked_update = rw (← half) marks.words

    pub warp_halves : Halves first n m
    warp_halves =
        let room = warp.room in
        let size = marks.size in
        record {
          room = omega arith;
          cell = rw marked_cell warp.cell;
          update = rw marked_update (strict_ruins b (words_in work (n + m + n) m) warp.update);
        }

    module _ {second : List ℕ} {r : Woven} (weaves : Weaves first n m second r) {next : List ℕ} (settled : Settled second h r.edits next) where
      words_are : words_in next 0 r.count ≡ result_words (words_in work (n + m) n) (with_ruins b (words_in work (n + m + n) m))
      words_are =
          let few = weaves.few in
          words_front next second h 0 r.count settled.front (omega arith) ∙ weaves.words ∙ rw (marked_cell, marked_update)

      edits_are : words_back next (2 * (n + m)) r.edits ≡ modifies (words_in work (n + m) n) (with_ruins b (words_in work (n + m + n) m))
      edits_are = rw half at settled.changes ∙ weaves.edits ∙ rw (marked_cell, marked_update)

      rising : Rising (λ (w : ℕ). name_of w) (words_in next 0 r.count)
      rising = rw words_are (rising_result (words_in work (n + m) n) (with_ruins b (words_in work (n + m + n) m)) warp.cell)

      places_are : places_of next (2 * (n + m)) r.count r.edits
          ≡ joined single double (result_words (words_in work (n + m) n) (with_ruins b (words_in work (n + m + n) m)))
          (modifies (words_in work (n + m) n) (with_ruins b (words_in work (n + m + n) m)))
      unfolding places_of places_from
      places_are = rw (sub-zero (2 * (n + m)), sub-zero r.count, sub-zero r.edits, words_are, edits_are)

      pub warp_wove : Wove b work n m next r
      warp_wove =
          let room = warp.room in
          let few = weaves.few in
          let size = marks.size in
          let long = weaves.size in
          let last = settled.size in
          record {
            words = words_are;
            edits = edits_are;
            places = places_are;
            order = rising_sorted (words_in next 0 r.count) rising;
            strict = rising_strict (words_in next 0 r.count) rising;
            woof = record { room = omega arith; few = omega arith };
            notes = omega arith;
            size = last ∙ long ∙ size;
          }
