-- Laws of the notes as they are written into the work area. Assumes nothing.
use Prim.Native.Nat.{ℕ, suc, ◌+◌, ◌-◌, ◌*◌, ◌^◌, ◌≤◌, ◌<◌}
use mathlib.Core.List.{List, [], ◌∷◌, ◌++◌}
use mathlib.Core.Path.{◌≡◌, refl, sym, ap, ◌∙◌}
use native.Mathlib.Nat.{zero-add, sub-zero}
use native.Mathlib.Numerals.{add-one}
use native.Mathlib.Omega.{arith}
use lib.ListN.{length, get_or, take, drop}
use lib.Seq.{take-append_seam, drop-append_seam}
use Rattle.words.specs.Words.{word_at, words_in, put_at}
use Rattle.words.specs.Order.{sorted, Sorted, Sorts}
use Rattle.words.specs.Find.{first_from}
use Rattle.words.proofs.WordsLaws.{words_length, words_at, word_front, words_split, words_grow}
use Rattle.words.proofs.SortLaws.{sorts_before, sorts_in_order}
use borrow.Author.Tests.{ne_eqb}
use Rattle.octets.specs.Number.{byte_at}
use Rattle.table.specs.Table.{VRPT}
use Rattle.items.specs.Lists.{entries_at}
use Rattle.items.specs.Identity.{rcnm_at, foid_at}
use Rattle.items.specs.Word.{word_offset, feature_word, rank_in}
use Rattle.items.specs.Item.{item_at}
use Rattle.items.proofs.ItemLaws.{vrpt_said, feature_said}
use Rattle.names.specs.NameWords.{items_at}
use Rattle.names.specs.Premises.{Stands}
use Rattle.names.proofs.HeldLaws.{stand_rank, last_feature}
use Rattle.ring.specs.Walk.{ends_with}
use Rattle.topology.specs.Notes.{note_for, notes_for, Ranked, Roomy, Beside, NotesPut, Prepared}
use Rattle.topology.proofs.BesideLaws.{beside_same, beside_put, beside_sorts, beside_words}

-- ---- the note of one item
module _ {s : List ℕ} {at rank : ℕ} (ranked : Ranked s at rank) where
  pub note_foid : (r : ℕ) → rank ≡ 3 → r ≡ foid_at s at → r ≡ note_for (item_at s at)
  unfolding note_for
  note_foid r e told =
      told ∙ rw (feature_said (rcnm_at s at) (foid_at s at) (last_feature _ (sym ranked.is ∙ e) ranked.known.class), ← ranked.is, e)

  pub note_ends : (r : ℕ) → rank ≡ 2 → r ≡ ends_with (entries_at s at VRPT) → r ≡ note_for (item_at s at)
  unfolding note_for
  note_ends r e told = told ∙ rw (vrpt_said s at, ← ranked.is, e)

  pub note_none : (rank ≡ 3 → ⊥) → (rank ≡ 2 → ⊥) → 0 ≡ note_for (item_at s at)
  unfolding note_for
  note_none feature edge = rw (← ranked.is, ne_eqb rank 3 feature, ne_eqb rank 2 edge)

  pub ranked_class : rank ≡ 3 → rcnm_at s at ≡ 100
  ranked_class e = last_feature _ (sym ranked.is ∙ e) ranked.known.class

pub stands_ranked : {s : List ℕ} {w : ℕ} → Stands s w → ((i : ℕ) → byte_at s i < 256) → Ranked s (word_offset w) (rank_in w)
stands_ranked stands bytes = record { laid = stands.laid; known = stands.known; is = stand_rank stands bytes }

-- ---- while they are written: of all notes those of the first i of m words stand in `next`, and these are left
pub record Noting (notes work : List ℕ) (m i : ℕ) (rest next : List ℕ) : Type 0 where
  pub is : notes ≡ words_in next m i ++ rest
  pub beside : Beside work m next

pub noting_start : (notes work : List ℕ) (m : ℕ) → Noting notes work m 0 notes work
unfolding words_in
noting_start notes work m = record { is = refl; beside = beside_same work m }

module _ {notes a : List ℕ} {m i : ℕ} {rest b : List ℕ} (so : Noting notes a m i rest b) (room : 16 * m ≤ length a) (more : i < m) where
  pub noting_room : 8 * (m + i) + 8 ≤ length b
  noting_room = let size = so.beside.size in omega arith

  pub noting_on : (note : ℕ) (left c : List ℕ) → rest ≡ note ∷ left → note < 2 ^ 64 → c ≡ put_at b (m + i) note → Noting notes a m (i + 1) left c
  noting_on note left c next small put = record {
    is = so.is ∙ rw (next, put, words_grow b m i note noting_room small) (sym (append_one (words_in b m i) note left));
    beside = beside_put i note c so.beside more noting_room put;
  }
    where
      append_one : (xs : List ℕ) (x : ℕ) (ys : List ℕ) → (xs ++ (x ∷ [])) ++ ys ≡ xs ++ (x ∷ ys)
      append_one [] x ys = refl
      append_one (y ∷ xs) x ys = ap (λ (l : List ℕ). y ∷ l) (append_one xs x ys)

pub noting_done : {notes a : List ℕ} {m i : ℕ} {rest b : List ℕ} → Noting notes a m i rest b → rest ≡ [] → i ≤ m → m ≤ i → NotesPut notes a m b
noting_done {notes} {a} {m} {i} {rest} {b} so none low high =
    let e : i ≡ m = omega arith in
    record { is = sym (rw (none, e) at so.is ∙ append_none (words_in b m m)); beside = so.beside }
  where
    append_none : (xs : List ℕ) → xs ++ [] ≡ xs
    append_none [] = refl
    append_none (x ∷ xs) = ap (λ (l : List ℕ). x ∷ l) (append_none xs)

-- ---- the same of the items of a file
abbrev notes_from : List ℕ → List ℕ → ℕ → ℕ → List ℕ
notes_from s work m i = notes_for (items_at s (words_in work i (m - i)))

pub record Filed (s work : List ℕ) (m i : ℕ) (next : List ℕ) : Type 0 where
  pub so : Noting (notes_for (items_at s (words_in work 0 m))) work m i (notes_from s work m i) next

pub filed_start : (s work : List ℕ) (m : ℕ) → Filed s work m 0 work
filed_start s work m = record { so = rw (sub-zero m) (noting_start (notes_for (items_at s (words_in work 0 m))) work m) }

module _ {s a : List ℕ} {m i : ℕ} {b : List ℕ} (filed : Filed s a m i b) (roomy : Roomy s a m) (more : i < m) where
  pub filed_room : 8 * (m + i) + 8 ≤ length b
  filed_room = noting_room filed.so roomy.room more

  module _ (w : ℕ) (is : w ≡ word_at b i) where
    word_same : w ≡ word_at a i
    word_same = is ∙ word_front b a m i filed.so.beside.front more

    pub filed_stands : Stands s w
    filed_stands =
        let e : get_or (words_in a 0 m) i 0 ≡ w = words_at a 0 m i more ∙ rw (zero-add i) (sym word_same) in
        rw e at (roomy.stand.each i (rw (words_length a 0 m) more))

    pub filed_on : (note : ℕ) (c : List ℕ) → note ≡ note_for (item_at s (word_offset w)) → note < 2 ^ 64 → c ≡ put_at b (m + i) note → Filed s a m (i + 1) c
    unfolding words_in items_at notes_for
    filed_on note c told small put =
        let n : m - i ≡ suc (m - (i + 1)) = omega arith in
        let left : notes_from s a m i ≡ note ∷ notes_from s a m (i + 1) = rw (n, ← word_same, ← told, add-one i) in
        record { so = noting_on filed.so roomy.room more note (notes_from s a m (i + 1)) c left small put }

pub filed_done : {s a : List ℕ} {m i : ℕ} {b : List ℕ} → Filed s a m i b → i ≤ m → m ≤ i → NotesPut (notes_for (items_at s (words_in a 0 m))) a m b
unfolding words_in items_at notes_for
filed_done {s} {a} {m} {i} {b} filed low high = let z : m - i ≡ 0 = omega arith in noting_done filed.so (rw z) low high

-- ---- the notes of the vectors stay, those of the features come into order
module _ {b c : List ℕ} (m v : ℕ) (room : 16 * m ≤ length b) (order : Sorted (words_in b 0 m)) (is : v ≡ 0 + first_from feature_word (words_in b 0 m)) (few : v ≤ 0 + m)
    (so : Sorts b (m + v) (m - v) c) where
  halves : words_in b m v ++ words_in b (m + v) (m - v) ≡ words_in b m m
  halves = let sum : v + (m - v) ≡ m = omega arith in sym (words_split b m v (m - v)) ∙ rw sum

  front : words_in b m v ≡ take v (words_in b m m)
  front = let long = words_length b m v in (rw long at (sym (take-append_seam (words_in b m v) (words_in b (m + v) (m - v))))) ∙ ap (take v) halves

  behind : words_in b (m + v) (m - v) ≡ drop v (words_in b m m)
  behind = let long = words_length b m v in (rw long at (sym (drop-append_seam (words_in b m v) (words_in b (m + v) (m - v))))) ∙ ap (drop v) halves

  pub notes_sorted : Prepared (words_in b m m) (words_in b 0 m) m c v
  notes_sorted =
      let kept : words_in c 0 m ≡ words_in b 0 m = sorts_before so 0 m (omega arith) in
      let long = so.size in
      record {
        noted = record { room = omega arith; few = omega arith; order = rw kept order; foids = sorts_in_order so };
        words = kept;
        first = is ∙ zero-add (first_from feature_word (words_in b 0 m));
        ends = sorts_before so m v (omega arith) ∙ front;
        foids = so.words ∙ ap sorted behind;
      }

  pub notes_beside : Beside b m c
  notes_beside = beside_sorts m v (m - v) so (omega arith)

-- ---- written, then in order
module _ {notes a b : List ℕ} {m : ℕ} (put : NotesPut notes a m b) where
  pub put_words : words_in b 0 m ≡ words_in a 0 m
  put_words = beside_words put.beside 0 m (omega arith)

  pub put_order : Sorted (words_in a 0 m) → Sorted (words_in b 0 m)
  put_order order = rw put_words order

  pub put_room : 16 * m ≤ length a → 16 * m ≤ length b
  put_room room = let size = put.beside.size in omega arith

  pub put_prepared : {c : List ℕ} {v : ℕ} → Prepared (words_in b m m) (words_in b 0 m) m c v → Prepared notes (words_in a 0 m) m c v
  put_prepared so = rw (put.is, put_words) at so
