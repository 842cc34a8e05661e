-- Laws of the marks. Assumes nothing.
use Prim.Native.Nat.{ℕ, ◌+◌, ◌*◌, ◌^◌, ◌≤◌, ◌<◌}
use mathlib.Core.List.{List, [], ◌∷◌, ◌++◌}
use mathlib.Core.Path.{◌≡◌, refl, sym, ap, ◌∙◌}
use native.Mathlib.Nat.{le_refl}
use native.Mathlib.Omega.{arith}
use lib.ListN.{length, get_or, take, drop}
use lib.Seq.{drop-drop, take-take}
use borrow.Author.Tests.{ne_eqb, eq-eqb}
use Rattle.words.specs.Words.{word_at, words_in, put_at}
use Rattle.words.proofs.WordsLaws.{words_length, words_at, words_split, words_grow, word_back, put_length, put_front, put_back}
use Rattle.items.specs.Identity.{ruin_at}
use Rattle.items.specs.Word.{word_offset, marked}
use Rattle.names.specs.Premises.{Stands}
use Rattle.merge.specs.Words.{with_ruin, with_ruins}
use Rattle.merge.specs.Area.{Standing, Marks}

-- ---- one word
module _ (s : List ℕ) (w r : ℕ) (told : r ≡ ruin_at s (word_offset w)) where
  pub ruin_marked : (v : ℕ) → r ≡ 2 → v ≡ marked w → v ≡ with_ruin s w
  unfolding with_ruin
  ruin_marked v e is = is ∙ rw (← told, eq-eqb r 2 e)

  pub ruin_plain : (r ≡ 2 → ⊥) → w ≡ with_ruin s w
  unfolding with_ruin
  ruin_plain ne = rw (← told, ne_eqb r 2 ne)

-- ---- lists of words
pub ruins_append : (s a b : List ℕ) → with_ruins s (a ++ b) ≡ with_ruins s a ++ with_ruins s b
unfolding with_ruins
ruins_append s [] b = refl
ruins_append s (w ∷ a) b = ap (λ (l : List ℕ). with_ruin s w ∷ l) (ruins_append s a b)

-- ---- while they are marked
pub record Marking (s work : List ℕ) (start m i : ℕ) (next : List ℕ) : Type 0 where
  pub done : words_in next start i ≡ with_ruins s (words_in work start i)
  pub rest : drop (8 * (start + i)) next ≡ drop (8 * (start + i)) work
  pub front : take (8 * start) next ≡ take (8 * start) work
  pub size : length next ≡ length work

pub marking_start : (s work : List ℕ) (start m : ℕ) → Marking s work start m 0 work
unfolding words_in with_ruins
marking_start s work start m = record { done = refl; rest = refl; front = refl; size = refl }

module _ {s work : List ℕ} {start m i : ℕ} {a : List ℕ} (so : Marking s work start m i a) (standing : Standing s work start m) (more : i < m)
    (w : ℕ) (is : w ≡ word_at a (start + i)) where
  word_rest : word_at a (start + i) ≡ word_at work (start + i)
  word_rest = word_back a work (start + i) (start + i) so.rest (le_refl (start + i))

  pub marking_stands : Stands s w
  marking_stands =
      let e : get_or (words_in work start m) i 0 ≡ w = words_at work start m i more ∙ sym (is ∙ word_rest) in
      rw e at (standing.stand.each i (rw (words_length work start m) more))

  pub marking_on : (v : ℕ) (b : List ℕ) → v ≡ with_ruin s w → v < 2 ^ 64 → b ≡ put_at a (start + i) v → Marking s work start m (i + 1) b
  unfolding words_in with_ruins
  marking_on v b told small put =
      let size = so.size in
      let room = standing.room in
      let fit : 8 * (start + i) + 8 ≤ length a = omega arith in
      let here : w ≡ word_at work (start + i) = is ∙ word_rest in
      let grown : with_ruins s (words_in work start (i + 1)) ≡ with_ruins s (words_in work start i) ++ (v ∷ []) =
      ap (with_ruins s) (words_split work start i 1) ∙ ruins_append s (words_in work start i) (words_in work (start + i) 1) ∙ rw (← here, ← told) in
      let sum : start + (i + 1) ≡ start + i + 1 = omega arith in
      let behind : 8 * (start + i + 1) ≡ 8 * (start + i) + 8 = omega arith in
      let further : drop (8 * (start + i + 1)) a ≡ drop (8 * (start + i + 1)) work =
      rw (behind, ← drop-drop 8 (8 * (start + i)) a, ← drop-drop 8 (8 * (start + i)) work, so.rest) in
      let before : take (8 * start) (put_at a (start + i) v) ≡ take (8 * start) a =
      sym (take-take (8 * start) (8 * (start + i)) (put_at a (start + i) v) (omega arith))
      ∙ ap (take (8 * start)) (put_front a (start + i) v fit) ∙ take-take (8 * start) (8 * (start + i)) a (omega arith) in
      record {
        done = rw put (words_grow a start i v fit small ∙ ap (λ (l : List ℕ). l ++ (v ∷ [])) so.done ∙ sym grown);
        rest = rw (put, sum) (put_back a (start + i) v fit ∙ further);
        front = rw put (before ∙ so.front);
        size = rw put (put_length a (start + i) v ∙ so.size);
      }

pub marking_done : {s work : List ℕ} {start m i : ℕ} {a : List ℕ} → Marking s work start m i a → i ≤ m → m ≤ i → Marks s work start m a
marking_done {s} {work} {start} {m} {i} {a} so low high =
    let e : i ≡ m = omega arith in
    record { words = rw e at so.done; front = so.front; back = rw e at so.rest; size = so.size }
