-- Laws of the words' walk as `collect` and `order` take it: the words so far are the walk so far. Assumes nothing.
use Prim.Native.Nat.{ℕ, ◌+◌, ◌-◌, ◌*◌, ◌^◌, ◌≤◌, ◌<◌}
use mathlib.Core.Bool.{Bool}
use mathlib.Core.List.{List, [], ◌∷◌, ◌++◌}
use mathlib.Core.Path.{◌≡◌, refl, sym, ap, ◌∙◌}
use native.Mathlib.Nat.{add-zero, zero-add}
use native.Mathlib.Omega.{arith}
use lib.ListN.{length, drop}
use lib.Seq.{drop-drop}
use Rattle.iso8211.specs.Record.{end_of}
use Rattle.iso8211.specs.Premises.{FramedAt}
use Rattle.iso8211.specs.File.{record_at}
use Rattle.iso8211.proofs.Promise.{framed_at, at_on}
use Rattle.words.specs.Words.{words_in, put_at}
use Rattle.words.specs.Order.{sorted, Sorts}
use Rattle.words.proofs.WordsLaws.{put_length, put_back, words_grow}
use Rattle.items.specs.Premises.{LaidOut, Identified}
use Rattle.items.specs.Identity.{word_for}
use Rattle.names.specs.NameWords.{words_from, name_words}
use Rattle.names.specs.Premises.{Readable}
use Rattle.names.specs.Names.{first_item}
use Rattle.names.specs.Area.{Collected}
use Rattle.names.proofs.NamesLaws.{from_grow}

-- ---- an area that holds words
pub holds_none : (s : List ℕ) (at : ℕ) (a : List ℕ) → Collected a (words_from 0 s at) 0 a
unfolding words_from words_in
holds_none s at a = record { words = refl; back = refl; size = refl }

drop_on : (a b : List ℕ) (i : ℕ) → drop (8 * i) b ≡ drop (8 * i) a → drop (8 * (i + 1)) b ≡ drop (8 * (i + 1)) a
drop_on a b i e =
    let sum : 8 * (i + 1) ≡ 8 * i + 8 = omega arith in
    rw sum (sym (drop-drop 8 (8 * i) b) ∙ ap (drop 8) e ∙ drop-drop 8 (8 * i) a)

pub holds_grow : {a these b : List ℕ} {i : ℕ} (w : ℕ) → Collected a these i b → 8 * i + 8 ≤ length b → w < 2 ^ 64 → Collected a (these ++ (w ∷ [])) (i + 1) (put_at b i w)
holds_grow {a} {these} {b} {i} w h room small = record {
  words = rw zero-add at (words_grow b 0 i w (rw (zero-add i) room) small) ∙ rw h.words;
  back = put_back b i w room ∙ drop_on a b i h.back;
  size = put_length b i w ∙ h.size;
}

pub holds_sorted : {a these b c : List ℕ} {m : ℕ} → Collected a these m b → Sorts b 0 m c → Collected a (sorted these) m c
holds_sorted {a} {these} {b} {c} {m} h so = record {
  words = so.words ∙ ap sorted h.words;
  back = rw (zero-add m) at so.back ∙ h.back;
  size = so.size ∙ h.size;
}

-- ---- the record at which the walk stands
module _ (update : Bool) (s : List ℕ) (n first i at : ℕ) (known : Readable update s n) (is : first ≡ first_item update) (more : i < n - first)
    (so : at ≡ record_at s (first + i)) where
  pub turn_framed : FramedAt s at
  turn_framed = framed_at s n (first + i) at known.framed (omega arith) so

  pub turn_laid : LaidOut s at
  turn_laid = rw so (known.items (first + i) (omega arith) (omega arith)).0

  pub turn_identified : Identified s at
  turn_identified = rw so (known.items (first + i) (omega arith) (omega arith)).1

-- ---- the walk's turns
pub collect_place : (s : List ℕ) (first at : ℕ) → at ≡ record_at s first → at ≡ record_at s (first + 0)
collect_place s first at e = rw (add-zero first) e

pub collect_next : (s : List ℕ) (first i at e : ℕ) → at ≡ record_at s (first + i) → e ≡ end_of s at → e ≡ record_at s (first + (i + 1))
collect_next s first i at e so is =
    let sum : first + (i + 1) ≡ first + i + 1 = omega arith in
    rw sum (at_on s (first + i) at e so is)

pub collect_turn : (update : Bool) (s a b c : List ℕ) (n first i at w : ℕ) → Collected a (words_from i s (record_at s first)) i b → at ≡ record_at s (first + i) → w ≡ word_for s at
    → c ≡ put_at b i w → i < n - first → first ≡ first_item update → 8 * (n - first_item update) ≤ length a → w < 2 ^ 64
    → Collected a (words_from (i + 1) s (record_at s first)) (i + 1) c
collect_turn update s a b c n first i at w h so is put more f room small =
    let word : w ≡ word_for s (record_at s (first + i)) = is ∙ ap (word_for s) so in
    let size = h.size in
    rw (put, from_grow i s first (record_at s first) refl, ← word) (holds_grow w h (omega arith) small)

pub collect_done : (update : Bool) (s a b : List ℕ) (n first i : ℕ) → first ≡ first_item update → i ≤ n - first → n - first ≤ i
    → Collected a (words_from i s (record_at s first)) i b → Collected a (name_words update s n) (n - first_item update) b
unfolding name_words
collect_done update s a b n first i is low high h =
    let e : i ≡ n - first = omega arith in
    rw (← is, ← e) h

pub order_done : (update : Bool) (s a b c : List ℕ) (n first : ℕ) → first ≡ first_item update → Collected a (name_words update s n) (n - first_item update) b
    → Sorts b 0 (n - first) c → Collected a (sorted (name_words update s n)) (n - first_item update) c
order_done update s a b c n first is h so = holds_sorted h (rw is at so)
