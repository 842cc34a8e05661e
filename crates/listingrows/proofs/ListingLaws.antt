-- Laws of the listing: the sizes by the class of the record, a row of short numbers, and the lines from the work area's words. Assumes nothing.
use Prim.Native.Nat.{ℕ, zero, suc, ◌+◌, ◌-◌, ◌*◌, ◌≤◌, ◌<◌}
use mathlib.Core.Bool.{false}
use mathlib.Core.List.{List, [], ◌∷◌, ◌++◌}
use mathlib.Core.Path.{◌≡◌, refl, sym, ap, ◌∙◌}
use native.Mathlib.Nat.{zero-add}
use native.Mathlib.Numerals.{add-one}
use native.Mathlib.Omega.{arith}
use lib.ListN.{length, get_or, drop, drop_of_length-le}
use lib.Seq.{drop-cons}
use borrow.Author.Tests.{ne_eqb}
use Rattle.octets.specs.Area.{Wrote, Going}
use Rattle.octets.proofs.AreaLaws.{wrote_join, wrote_length, wrote_as, going_start, going_step, going_end}
use Rattle.words.specs.Words.{word_at, words_in}
use Rattle.words.specs.Order.{sorted}
use Rattle.words.proofs.WordsLaws.{words_at, words_length}
use Rattle.table.specs.Table.{ATTV, VRPT, SG2D, SG3D, ATTF, NATF, FFPT, FSPT}
use Rattle.items.specs.Lists.{entries_at}
use Rattle.items.specs.Identity.{rcnm_at, rcid_at, version_at}
use Rattle.items.specs.Word.{word_offset}
use Rattle.items.specs.Item.{item_at}
use Rattle.items.proofs.ItemLaws.{list_said}
use Rattle.items.proofs.KindLaws.{attv_list, vrpt_list, sg2d_list, sg3d_list, attf_list, natf_list, ffpt_list, fspt_list}
use Rattle.names.specs.NameWords.{name_words, items_at}
use Rattle.names.specs.Held.{held_items}
use Rattle.names.specs.Premises.{Readable, Stands}
use Rattle.names.specs.Names.{first_item}
use Rattle.names.specs.Area.{Collected}
use Rattle.names.proofs.HeldLaws.{all_stand}
use Rattle.names.proofs.ItemsLaws.{held_items_lem}
use Rattle.names.proofs.ReadableLaws.{readable_three}
use Rattle.listingrows.specs.Text.{line_of, header_text, ShortNumbers}
use Rattle.listingrows.specs.Listing.{size_of, attributes_of, pointers_of, coordinates_of, row_of, lines_from, lines_of, Listable}
use Rattle.listingrows.proofs.RecordsLaws.{records_few}
use Rattle.listingrows.proofs.TextLaws.{line_few}

-- ---- the sizes of a record's lists, rcnm being its RCNM
module _ (s : List ℕ) (at rcnm r : ℕ) (is : rcnm ≡ rcnm_at s at) where
  module _ (feature : rcnm ≡ 100) where
    pub attributes_feature : r ≡ length (entries_at s at ATTF) + length (entries_at s at NATF) → r ≡ attributes_of (item_at s at)
    unfolding attributes_of size_of
    attributes_feature e = rw (← is, feature, list_said s at ATTF attf_list, list_said s at NATF natf_list) e

    pub pointers_feature : r ≡ length (entries_at s at FFPT) + length (entries_at s at FSPT) → r ≡ pointers_of (item_at s at)
    unfolding pointers_of size_of
    pointers_feature e = rw (← is, feature, list_said s at FFPT ffpt_list, list_said s at FSPT fspt_list) e

  module _ (vector : rcnm ≡ 100 → ⊥) where
    pub attributes_vector : r ≡ length (entries_at s at ATTV) → r ≡ attributes_of (item_at s at)
    unfolding attributes_of size_of
    attributes_vector e = rw (← is, ne_eqb rcnm 100 vector, list_said s at ATTV attv_list) e

    pub pointers_vector : r ≡ length (entries_at s at VRPT) → r ≡ pointers_of (item_at s at)
    unfolding pointers_of size_of
    pointers_vector e = rw (← is, ne_eqb rcnm 100 vector, list_said s at VRPT vrpt_list) e

    pub coordinates_vector : r ≡ length (entries_at s at SG2D) + length (entries_at s at SG3D) → r ≡ coordinates_of (item_at s at)
    unfolding coordinates_of size_of
    coordinates_vector e = rw (← is, ne_eqb rcnm 100 vector, list_said s at SG2D sg2d_list, list_said s at SG3D sg3d_list) e

pub coordinates_feature : (s : List ℕ) (at rcnm : ℕ) → rcnm ≡ rcnm_at s at → rcnm ≡ 100 → 0 ≡ coordinates_of (item_at s at)
unfolding coordinates_of
coordinates_feature s at rcnm is feature = rw (← is, feature)

-- ---- a row, made of numbers that the record has
pub row_made : (s : List ℕ) (at a b c d e f : ℕ) → a ≡ rcnm_at s at → b ≡ rcid_at s at → c ≡ version_at s at → d ≡ attributes_of (item_at s at)
    → e ≡ pointers_of (item_at s at) → f ≡ coordinates_of (item_at s at) → (a ∷ b ∷ c ∷ d ∷ e ∷ f ∷ []) ≡ row_of (item_at s at)
unfolding row_of
row_made s at a b c d e f p q r t u v = rw (p, q, r, t, u, v)

pub row_short : (a b c d e f n : ℕ) → n ≤ 65536 → a < 256 → b < 4294967296 → c < 65536
    → d ≤ 2 * n → e ≤ 2 * n → f ≤ 2 * n → ShortNumbers (a ∷ b ∷ c ∷ d ∷ e ∷ f ∷ [])
row_short a b c d e f n short p q r t u v = record { each = each_short } where
  each_short : (k : ℕ) → k < 6 → get_or (a ∷ b ∷ c ∷ d ∷ e ∷ f ∷ []) k 0 < 10000000000
  each_short zero h = omega arith
  each_short (suc zero) h = omega arith
  each_short (suc (suc zero)) h = omega arith
  each_short (suc (suc (suc zero))) h = omega arith
  each_short (suc (suc (suc (suc zero)))) h = omega arith
  each_short (suc (suc (suc (suc (suc zero))))) h = omega arith
  each_short (suc (suc (suc (suc (suc (suc k)))))) h = absurd (omega arith)

-- ---- a line fits 80 bytes
row_length : (s : List ℕ) (at : ℕ) → length (row_of (item_at s at)) ≡ 6
unfolding row_of
row_length s at = refl

module _ (s : List ℕ) (at place : ℕ) (row : List ℕ) (is : row ≡ row_of (item_at s at)) where
  item_few : ShortNumbers row → place < 10000000000 → length (line_of place row) ≤ 80
  item_few short h = line_few place row h (ap length is ∙ row_length s at) short

  pub item_room : (p n : ℕ) → ShortNumbers row → place < 10000000000 → p + 80 ≤ n → p + length (line_of place row) ≤ n
  item_room p n short h fit = omega (arith, item_few short h)

  pub item_wrote : {a b : List ℕ} {p r : ℕ} → Wrote a p (line_of place row) b r → Wrote a p (line_of place (row_of (item_at s at))) b r
  item_wrote wrote = rw is at wrote

  pub item_end : {a b : List ℕ} {p r : ℕ} → ShortNumbers row → place < 10000000000 → Wrote a p (line_of place row) b r → r ≤ p + 80
  item_end short h wrote = omega (arith, item_few short h, wrote.end)

-- ---- the lines
lines_more : (s ws : List ℕ) (k : ℕ) → k < length ws
    → lines_from (k + 3) (items_at s (drop k ws)) ≡ line_of (k + 3) (row_of (item_at s (word_offset (get_or ws k 0)))) ++ lines_from (k + 1 + 3) (items_at s (drop (k + 1) ws))
unfolding lines_from items_at
lines_more s ws k h =
    let e : k + 3 + 1 ≡ k + 1 + 3 = omega arith in
    let line = line_of (k + 3) (row_of (item_at s (word_offset (get_or ws k 0)))) in
    ap (λ (l : List ℕ). lines_from (k + 3) (items_at s l)) (drop-cons ws k 0 h) ∙ ap (λ (p : ℕ). line ++ lines_from p (items_at s (drop (suc k) ws))) e
    ∙ ap (λ (q : ℕ). line ++ lines_from (k + 1 + 3) (items_at s (drop q ws))) (sym (add-one k))

lines_last : (s ws : List ℕ) (k : ℕ) → length ws ≤ k → lines_from (k + 3) (items_at s (drop k ws)) ≡ []
unfolding lines_from items_at
lines_last s ws k h = rw (drop_of_length-le ws {i = k} h)

pub lines_start : (a : List ℕ) (at : ℕ) (s ws : List ℕ) → at ≤ length a → Going a at (lines_from 3 (items_at s ws)) a at (lines_from (0 + 3) (items_at s (drop 0 ws)))
lines_start a at s ws h = going_start a at (lines_from 3 (items_at s ws)) h

module _ {a b : List ℕ} {at p : ℕ} (k m w : ℕ) (s work : List ℕ)
    (going : Going a at (lines_from 3 (items_at s (words_in work 0 m))) b p (lines_from (k + 3) (items_at s (drop k (words_in work 0 m))))) where
  pub lines_on : {c : List ℕ} {q : ℕ} → k < m → w ≡ word_at work k → Wrote b p (line_of (k + 3) (row_of (item_at s (word_offset w)))) c q
      → Going a at (lines_from 3 (items_at s (words_in work 0 m))) c q (lines_from (k + 1 + 3) (items_at s (drop (k + 1) (words_in work 0 m))))
  lines_on {c} {q} more is wrote =
      let ws = words_in work 0 m in
      let e : get_or ws k 0 ≡ w = words_at work 0 m k more ∙ ap (λ (i : ℕ). word_at work i) (zero-add k) ∙ sym is in
      going_step (line_of (k + 3) (row_of (item_at s (word_offset w)))) (lines_from (k + 1 + 3) (items_at s (drop (k + 1) ws))) going
      (lines_more s ws k (rw (words_length work 0 m) more)
      ∙ ap (λ (v : ℕ). line_of (k + 3) (row_of (item_at s (word_offset v))) ++ lines_from (k + 1 + 3) (items_at s (drop (k + 1) ws))) e) wrote

pub lines_end : {a b : List ℕ} {at p : ℕ} (k m : ℕ) (s work : List ℕ)
    → Going a at (lines_from 3 (items_at s (words_in work 0 m))) b p (lines_from (k + 3) (items_at s (drop k (words_in work 0 m)))) → m ≤ k
    → Wrote a at (lines_from 3 (items_at s (words_in work 0 m))) b p
lines_end k m s work going end = going_end going (lines_last s (words_in work 0 m) k (rw (words_length work 0 m) end))

-- the word at k stands for a record
pub listed_word : {s work : List ℕ} {m : ℕ} (k w : ℕ) → Listable s m work → k < m → w ≡ word_at work k → Stands s w
listed_word {s} {work} {m} k w known more is =
    let e : get_or (words_in work 0 m) k 0 ≡ w = words_at work 0 m k more ∙ ap (λ (i : ℕ). word_at work i) (zero-add k) ∙ sym is in
    rw e at (known.stand.each k (rw (words_length work 0 m) more))

-- ---- a cell of n records, its words collected in held order
pub order_room : {s : List ℕ} {n : ℕ} (w : ℕ) → Readable false s n → length s ≤ 65536 → 16384 ≤ w → 8 * (n - first_item false) ≤ w
order_room {s} {n} w readable short room = omega (arith, records_few s n readable.framed short)

pub lines_room : {s x y : List ℕ} {n p : ℕ} (first : ℕ) → Readable false s n → length s ≤ 65536 → 163904 ≤ length x → Wrote x 0 header_text y p → p ≡ 54
    → p + 80 * (n - first) ≤ length y
lines_room {s} {x} {y} {n} {p} first readable short room wrote e = omega (arith, wrote_length wrote, records_few s n readable.framed short)

module _ {s a b : List ℕ} {n : ℕ} (first : ℕ) (readable : Readable false s n) (is : first ≡ first_item false)
    (collected : Collected a (sorted (name_words false s n)) (n - first_item false) b) where
  pub cell_listable : length s ≤ 65536 → 16384 ≤ length a → Listable s (n - first) b
  cell_listable short room =
      let few = records_few s n readable.framed short in
      record {
        short = short;
        few = omega arith;
        room = omega (arith, collected.size);
        stand = rw (is, collected.words) (all_stand readable);
      }

  pub cell_wrote : {x y z : List ℕ} {p r : ℕ} → Wrote x 0 header_text y p → Wrote y p (lines_from 3 (items_at s (words_in b 0 (n - first)))) z r
      → Wrote x 0 (lines_of s n) z r
  unfolding lines_of
  cell_wrote f g = wrote_join f (wrote_as (lines_from 3 (held_items s n)) (rw (is, collected.words, held_items_lem s n readable.framed readable.short (readable_three readable)))
      g)
