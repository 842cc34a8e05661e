-- Laws of name words: those of a file's records one by one; their places ascend. Assumes nothing.
use Prim.Native.Nat.{ℕ, zero, suc, ◌+◌, ◌-◌, ◌<◌}
use mathlib.Core.Bool.{Bool}
use mathlib.Core.List.{List, [], ◌∷◌, ◌++◌}
use mathlib.Core.Path.{◌≡◌, refl, ap, ◌∙◌}
use native.Mathlib.Nat.{add-zero, suc-add}
use native.Mathlib.Omega.{arith}
use lib.ListN.{length, get_or}
use Rattle.octets.specs.Number.{byte_at, num_at}
use Rattle.iso8211.specs.Record.{end_of}
use Rattle.iso8211.specs.File.{record_at}
use Rattle.iso8211.proofs.Promise.{at_next}
use Rattle.items.specs.Identity.{id_at, rcid_at, name_at, word_for}
use Rattle.items.specs.Word.{name_of, word_offset, name_weight}
use Rattle.items.proofs.IdentityLaws.{word_name, word_offset_lem, word_small}
use Rattle.names.specs.NameWords.{words_from, name_words}
use Rattle.names.specs.Premises.{Readable, Ascending}
use Rattle.names.specs.Names.{first_item}
use Rattle.names.proofs.WalkLaws.{at_order, at_inside}

-- ---- the walk
pub from_length : (n : ℕ) (s : List ℕ) (at : ℕ) → length (words_from n s at) ≡ n
unfolding words_from
from_length zero s at = refl
from_length (suc n) s at = ap suc (from_length n s (end_of s at))

pub from_at : (n : ℕ) (s : List ℕ) (k at i : ℕ) → at ≡ record_at s k → i < n → get_or (words_from n s at) i 0 ≡ word_for s (record_at s (k + i))
unfolding words_from
from_at zero s k at i e h = absurd (omega arith)
from_at (suc n) s k at zero e h = rw (add-zero k, e)
from_at (suc n) s k at (suc i) e h =
    from_at n s (k + 1) (end_of s at) i (at_next s k at e) (omega arith) ∙ ap (λ (j : ℕ). word_for s (record_at s j)) (omega arith)

-- one record more
pub from_grow : (n : ℕ) (s : List ℕ) (k at : ℕ) → at ≡ record_at s k → words_from (n + 1) s at ≡ words_from n s at ++ (word_for s (record_at s (k + n)) ∷ [])
unfolding words_from
from_grow zero s k at e = rw (add-zero k, e)
from_grow (suc n) s k at e =
    let place : k + 1 + n ≡ k + suc n = omega arith in
    rw (suc-add n 1, from_grow n s (k + 1) (end_of s at) (at_next s k at e), place)

-- ---- the words of a file
pub names_length : (update : Bool) (s : List ℕ) (n : ℕ) → length (name_words update s n) ≡ n - first_item update
unfolding name_words
names_length update s n = from_length (n - first_item update) s (record_at s (first_item update))

pub names_at : (update : Bool) (s : List ℕ) (n k : ℕ) → k < n - first_item update
    → get_or (name_words update s n) k 0 ≡ word_for s (record_at s (first_item update + k))
unfolding name_words
names_at update s n k h = from_at (n - first_item update) s (first_item update) (record_at s (first_item update)) k refl h

module _ (update : Bool) (s : List ℕ) (n : ℕ) (known : Readable update s n) where
  place_low : (k : ℕ) → k < n - first_item update → record_at s (first_item update + k) < name_weight
  place_low k h =
      let in_file = at_inside s n (first_item update + k) (record_at s (first_item update + k)) known.framed (omega arith) refl in
      let short = known.short in
      omega arith

  -- the k-th word's name and place are those of record firstItem + k
  pub names_name : (k : ℕ) → k < n - first_item update → name_of (get_or (name_words update s n) k 0) ≡ name_at s (record_at s (first_item update + k))
  names_name k h = rw (names_at update s n k h) (word_name s (record_at s (first_item update + k)) (place_low k h))

  pub names_place : (k : ℕ) → k < n - first_item update → word_offset (get_or (name_words update s n) k 0) ≡ record_at s (first_item update + k)
  names_place k h = rw (names_at update s n k h) (word_offset_lem s (record_at s (first_item update + k)) (place_low k h))

  -- each is a word of 64 bits, the file being one of bytes
  pub names_small : ((i : ℕ) → byte_at s i < 256) → (k : ℕ) → k < n - first_item update → get_or (name_words update s n) k 0 < 18446744073709551616
  unfolding rcid_at num_at
  names_small bytes k h =
      let at = record_at s (first_item update + k) in
      let p = id_at s at + 1 in
      let a = bytes p in
      let b = bytes (suc p) in
      let d = bytes (suc (suc p)) in
      let e = bytes (suc (suc (suc p))) in
      rw (names_at update s n k h) (word_small s at (place_low k h) (omega arith))

  -- and their places ascend
  pub ascending : Ascending (name_words update s n)
  ascending = record {
    up = λ p q less b.
        let short : q < n - first_item update = rw (names_length update s n) at b in
        rw (names_place p (omega arith), names_place q short) (at_order s n (first_item update + p) (first_item update + q) known.framed (omega arith) (omega arith));
  }
