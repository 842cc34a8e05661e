-- Laws of words copied behind themselves. Assumes nothing.
use Prim.Native.Nat.{ℕ, ◌+◌, ◌-◌, ◌*◌, ◌^◌, ◌≤◌, ◌<◌}
use mathlib.Core.List.{List, [], ◌∷◌}
use mathlib.Core.Path.{◌≡◌, refl, sym, ap, ◌∙◌}
use native.Mathlib.Nat.{zero-add}
use native.Mathlib.Omega.{arith}
use lib.ListN.{length, get_or}
use Rattle.words.specs.Words.{word_at, words_in, put_at}
use Rattle.words.proofs.WordsLaws.{words_at, words_same, words_split, words_grow, words_put_behind, put_length}
use Rattle.bothonce.specs.Both.{Raised}

-- i of n words are copied, and those that are copied stay
pub record Raising (before : List ℕ) (n i : ℕ) (now : List ℕ) : Type 0 where
  pub few : i ≤ n
  pub size : length now ≡ length before
  pub copied : words_in now n i ≡ words_in before 0 i
  pub kept : words_in now 0 n ≡ words_in before 0 n

pub raising_start : (before : List ℕ) (n : ℕ) → Raising before n 0 before
unfolding words_in
raising_start before n = record { few = omega arith; size = refl; copied = refl; kept = refl }

one_word : (s : List ℕ) (i : ℕ) → words_in s i 1 ≡ word_at s i ∷ []
unfolding words_in
one_word s i = refl

module _ {before now : List ℕ} {n i : ℕ} (so : Raising before n i now) (more : i < n) where
  same_word : word_at now i ≡ word_at before i
  same_word =
      sym (rw (zero-add i) at (words_at now 0 n i more)) ∙ ap (λ (l : List ℕ). get_or l i 0) so.kept ∙ rw (zero-add i) at (words_at before 0 n i more)

  pub raising_on : (w : ℕ) (next : List ℕ) → 8 * (n + n) ≤ length before → w ≡ word_at now i → w < 2 ^ 64 → next ≡ put_at now (n + i) w → Raising before n (i + 1) next
  raising_on w next room is small put =
      let size = so.size in
      let word : w ≡ word_at before i = is ∙ same_word in
      record {
        few = omega arith;
        size = ap length put ∙ put_length now (n + i) w ∙ size;
        copied = rw put
            (words_grow now n i w (omega arith) small ∙ rw (so.copied, word)
            (sym (rw (zero-add i, one_word before i) at (words_split before 0 i 1))));
        kept = rw put (words_put_behind now (n + i) 0 n w (omega arith) (omega arith) ∙ so.kept);
      }

pub raising_end : {before now : List ℕ} {n i : ℕ} → Raising before n i now → n ≤ i → Raised before n now
raising_end {before} {now} {n} {i} so all = let few = so.few in let e : i ≡ n = omega arith in record { words = rw e at so.copied }

-- a part of what was copied
pub raised_part : {before after : List ℕ} {n : ℕ} (i m : ℕ) → Raised before n after → i + m ≤ n → words_in after (n + i) m ≡ words_in before i m
raised_part {before} {after} {n} i m so few =
    words_same after before (n + i) i m
    (λ k less.
    let sum : n + i + k ≡ n + (i + k) = omega arith in
    rw sum
    (sym (words_at after n n (i + k) (omega arith)) ∙ ap (λ (l : List ℕ). get_or l (i + k) 0) so.words ∙ rw (zero-add (i + k)) at (words_at before 0 n (i + k) (omega arith))))
