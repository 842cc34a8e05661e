-- All items written and counted: turns of the loops; and that records which are short enough fit. Assumes nothing.
use Prim.Native.Nat.{◌*◌, ℕ, ◌+◌, ◌≤◌, ◌<◌, max}
use mathlib.Core.Bool.{Bool, true, ◌&&◌}
use mathlib.Core.List.{List, [], ◌∷◌, ◌++◌}
use mathlib.Core.Logic.{⊎_elim}
use mathlib.Core.Path.{◌≡◌, refl, sym, ap, ◌∙◌}
use native.Mathlib.Omega.{arith}
use lib.ListN.{length, drop, length-append, drop_of_length-le}
use Rattle.octets.specs.Area.{Wrote, Going}
use Rattle.octets.proofs.Cases.{eq_or_ne}
use Rattle.octets.proofs.Tests.{both}
use Rattle.octets.proofs.AreaLaws.{going_start, going_step, going_end, going_room}
use Rattle.words.specs.Words.{word_at, words_in}
use Rattle.words.proofs.WordsLaws.{words_length, words_from_lem}
use Rattle.items.specs.Word.{word_offset}
use Rattle.records.specs.Written.{record_bytes, records_bytes, size_of}
use Rattle.records.proofs.WrittenLaws.{record_length}
use Rattle.items.specs.Item.{item_at}
use Rattle.itemfields.specs.Fields.{item_pieces}
use Rattle.held.specs.Held.{items_pieces}
use Rattle.itemrows.specs.Plain.{Writable, ItemSized}
use Rattle.names.specs.NameWords.{items_at}
use Rattle.asheld.specs.Held.{Same}
use Rattle.writing.specs.All.{written_from, most_of, Words, AllSized, ItemKnown, AllSame, AllMeasured}
use Rattle.writing.specs.declared.all.Sizes.{Sizes}
use Rattle.writing.specs.declared.item.Known.{Known}

one_more : (n : ℕ) (s : List ℕ) (w : ℕ) (ws : List ℕ)
    → written_from n s (w ∷ ws) ≡ record_bytes (item_pieces n (item_at s (word_offset w))) ++ written_from (n + 1) s ws
unfolding written_from items_at items_pieces records_bytes
one_more n s w ws = refl

none_left : (n : ℕ) (s : List ℕ) → written_from n s [] ≡ []
unfolding written_from items_at items_pieces records_bytes
none_left n s = refl

-- ---- the item of word k, which is w: its record, and those of the words behind it
module _ (s work : List ℕ) (m k w : ℕ) (here : k < m) (read : w ≡ word_at work k) where
  abbrev all_words : List ℕ
  all_words = words_in work 0 m

  abbrev one : List ℕ
  one = record_bytes (item_pieces (k + 3) (item_at s (word_offset w)))

  abbrev rest : List ℕ
  rest = written_from (k + 1 + 3) s (drop (k + 1) all_words)

  peel : drop k all_words ≡ w ∷ drop (k + 1) all_words
  peel = words_from_lem work m k w here read

  all_next : written_from (k + 3) s (drop k all_words) ≡ one ++ rest
  all_next =
      let e : k + 3 + 1 ≡ k + 1 + 3 = omega arith in
      ap (λ (l : List ℕ). written_from (k + 3) s l) peel ∙ one_more (k + 3) s w (drop (k + 1) all_words)
      ∙ ap (λ (n : ℕ). one ++ written_from n s (drop (k + 1) all_words)) e

  next_long : length (written_from (k + 3) s (drop k all_words)) ≡ size_of (item_pieces (k + 3) (item_at s (word_offset w))) + length rest
  next_long = ap length all_next ∙ length-append one rest ∙ ap (λ (n : ℕ). n + length rest) (record_length (item_pieces (k + 3) (item_at s (word_offset w))))

  pub word_writable : Words s m work → Writable s (word_offset w)
  word_writable ws = rw read (ws.each k here)

  pub word_same : AllSame s m work → Same s (word_offset w)
  word_same ws = rw read (ws.each k here)

  pub all_room : {a b all : List ℕ} {p q : ℕ} → Going a p all b q (written_from (k + 3) s (drop k (words_in work 0 m))) → p + length all ≤ length a
      → q + size_of (item_pieces (k + 3) (item_at s (word_offset w))) ≤ length b
  all_room g room = omega (arith, going_room g room, next_long)

  pub all_on : {a b d all : List ℕ} {p q r : ℕ} → Going a p all b q (written_from (k + 3) s (drop k (words_in work 0 m)))
      → Wrote b q (record_bytes (item_pieces (k + 3) (item_at s (word_offset w)))) d r → Going a p all d r (written_from (k + 1 + 3) s (drop (k + 1) (words_in work 0 m)))
  all_on g v = going_step one rest g all_next v

  module _ (size : ℕ) (sized : ItemSized s (word_offset w) size) where
    pub sum_on : (all sum : ℕ) → all ≡ sum + length (written_from (k + 3) s (drop k (words_in work 0 m)))
        → all ≡ sum + size + length (written_from (k + 1 + 3) s (drop (k + 1) (words_in work 0 m)))
    sum_on all sum so = omega (arith, next_long, sized.is (k + 3))

    pub most_on : (all most now : ℕ) → all ≡ max most (most_of (k + 3) s (drop k (words_in work 0 m))) → now ≡ max most size
        → all ≡ max now (most_of (k + 1 + 3) s (drop (k + 1) (words_in work 0 m)))
    unfolding most_of
    most_on all most now so e =
        let z = sized.is (k + 3) in
        let n : k + 3 + 1 ≡ k + 1 + 3 = omega arith in
        let long = size_of (item_pieces (k + 3) (item_at s (word_offset w))) in
        let next : most_of (k + 3) s (drop k all_words) ≡ max long (most_of (k + 1 + 3) s (drop (k + 1) all_words)) =
        ap (λ (l : List ℕ). most_of (k + 3) s l) peel ∙ ap (λ (x : ℕ). max long (most_of x s (drop (k + 1) all_words))) n in
        omega arith

-- ---- whether all are the held form's so far
pub record SameTo (s work : List ℕ) (k : ℕ) (same : Bool) : Type 0 where
  pub are : same ≡ true → (j : ℕ) → j < k → Same s (word_offset (word_at work j))

pub same_start : (s work : List ℕ) → SameTo s work 0 true
same_start s work = record { are = λ (e : true ≡ true) (j : ℕ) (h : j < 0). absurd (omega arith) }

pub same_on : (s work : List ℕ) (k w : ℕ) (same now : Bool) (one : Known) → w ≡ word_at work k → SameTo s work k same → ItemKnown s (word_offset w) one → now ≡ (same && one.same)
    → SameTo s work (k + 1) now
same_on s work k w same now one read so known is = record {
  are = λ (e : now ≡ true) (j : ℕ) (h : j < k + 1).
      let parts = both same one.same (sym is ∙ e) in
      ⊎_elim
      (λ (same_place : j ≡ k). rw (same_place, ← read) (known.same parts.1))
      (λ (before : j ≡ k → ⊥). so.are parts.0 j (omega arith))
      (eq_or_ne j k);
}

pub measured : (s work : List ℕ) (m k : ℕ) (sizes : Sizes) (same : Bool) → m ≤ k → AllSized s (words_in work 0 m) sizes → SameTo s work k same
    → AllMeasured s m work (record { sizes = sizes; same = same })
measured s work m k sizes same past sized so =
    record { sized = sized; same = λ (e : same ≡ true). record { each = λ (j : ℕ) (h : j < m). so.are e j (omega arith) } }

-- ---- before the first word, and behind the last
pub all_start : (a : List ℕ) (p : ℕ) (s ws : List ℕ) → p + length (written_from 3 s ws) ≤ length a → Going a p (written_from 3 s ws) a p (written_from (0 + 3) s (drop 0 ws))
all_start a p s ws h = going_start a p (written_from 3 s ws) (omega arith)

module _ (s work : List ℕ) (m k : ℕ) (past : m ≤ k) where
  gone : drop k (words_in work 0 m) ≡ []
  gone = drop_of_length-le (words_in work 0 m) {i = k} (rw (words_length work 0 m) past)

  none : written_from (k + 3) s (drop k (words_in work 0 m)) ≡ []
  none = ap (λ (l : List ℕ). written_from (k + 3) s l) gone ∙ none_left (k + 3) s

  pub all_end : {a b all : List ℕ} {p q : ℕ} → Going a p all b q (written_from (k + 3) s (drop k (words_in work 0 m))) → Wrote a p all b q
  all_end g = going_end g none

  pub sizes_end : (sum most : ℕ) → m ≤ 65536 → k ≤ m → sum ≤ k * 1300000
      → length (written_from 3 s (words_in work 0 m)) ≡ sum + length (written_from (k + 3) s (drop k (words_in work 0 m)))
      → most_of 3 s (words_in work 0 m) ≡ max most (most_of (k + 3) s (drop k (words_in work 0 m))) → AllSized s (words_in work 0 m) (record { sum = sum; most = most })
  unfolding most_of
  sizes_end sum most few le low so mo =
      let e = ap length none in
      let f : most_of (k + 3) s (drop k (words_in work 0 m)) ≡ 0 = ap (λ (l : List ℕ). most_of (k + 3) s l) gone in
      record { sum_is = omega arith; most_is = omega arith; sum_few = omega arith }
