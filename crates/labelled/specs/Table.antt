-- The table by which a list of attributes is edited, a place for each label: where the update has the label, then whether the held list has
-- it too. Nothing here need be believed. Assumes nothing.
use Rattle.std.specs.Prelude.{ℕ, ◌+◌, ◌≤◌, ◌<◌, Bool, true, cond, ◌&&◌, List, [], ◌∷◌, ◌≡◌, length, take, drop, get_or, ltb, eqb}
use Rattle.entries.specs.Entries.{entry_len, entries_of}
use Rattle.entries.specs.Rules.{all_of}
use Rattle.attributes.specs.Attributes.{attribute, label_of, is_removal}
use Rattle.edits.specs.AttributeEdit.{named}
use Rattle.edits.specs.OnePass.{apart}

-- two lists of attributes, neither with a label twice
pub record Labelled (held brought : List ℕ) : Type 0 where
  pub once : apart label_of (entries_of attribute held) ≡ true
  pub once_new : apart label_of (entries_of attribute brought) ≡ true
  pub short : length held ≤ 300000
  pub short_new : length brought ≤ 300000

-- at `at` of a list of attributes stands an entry of n bytes with this label
pub record LabelAt (bs : List ℕ) (at n label : ℕ) : Type 0 where
  pub size : n ≡ entry_len attribute (drop at bs)
  pub some : n ≡ 0 → ⊥
  pub long : 3 ≤ n
  pub within : at + n ≤ length bs
  pub told : label ≡ label_of (take n (drop at bs))
  pub low : label < 65536

-- a table of zeros
pub record Blank (t : List ℕ) : Type 0 where
  pub size : length t ≡ 65536
  pub is : (k : ℕ) → get_or t k 0 ≡ 0

-- ---- where the update has a label
-- 1 and the index of the last entry of label k, entries from index `at` on; `old` where there is none
unfoldable pub place_from : ℕ → ℕ → ℕ → List (List ℕ) → ℕ
place_from k old at [] = old
place_from k old at (e ∷ es) = place_from k (cond (eqb (label_of e) k) (at + 1) old) (at + length e) es

unfoldable pub place_in : ℕ → List ℕ → ℕ
place_in k bs = place_from k 0 0 (entries_of attribute bs)

unfoldable pub is_low : List ℕ → Bool
is_low e = ltb (label_of e) 65536

pub record Indexed (bs t : List ℕ) : Type 0 where
  pub size : length t ≡ 65536
  pub low : all_of is_low (entries_of attribute bs) ≡ true
  pub is : (k : ℕ) → k < 65536 → get_or t k 0 ≡ place_in k bs

-- ---- the table after a walk that changes the number of each label that it meets
pub record Passed (f : ℕ → ℕ) (bs before t : List ℕ) : Type 0 where
  pub size : length t ≡ 65536
  pub is : (k : ℕ) → k < 65536 → get_or t k 0 ≡ cond (named label_of k (entries_of attribute bs)) (f (get_or before k 0)) (get_or before k 0)

-- a label that both lists have: the highest number, where the update has it
unfoldable pub used : ℕ → ℕ
used p = cond (eqb p 0) 0 4294967295

unfoldable pub cleared : ℕ → ℕ
cleared p = 0

-- ---- what stands in the place of an entry
unfoldable pub entry_at : ℕ → List ℕ → List ℕ
entry_at from bs = take (entry_len attribute (drop from bs)) (drop from bs)

unfoldable pub unremoved : List ℕ → List ℕ
unremoved e = cond (is_removal e) [] e

-- the entry of n bytes at `at` of the held list, and the number of its label
pub record Facing (held : List ℕ) (at n : ℕ) (brought : List ℕ) (p : ℕ) : Type 0 where
  pub within : at + n ≤ length held
  pub once : apart label_of (entries_of attribute brought) ≡ true
  pub is : p ≡ place_in (label_of (take n (drop at held))) brought

-- ---- what is new of the update, by the numbers of its labels
unfoldable pub new_of : ℕ → List ℕ → List ℕ
new_of p e = cond (eqb p 4294967295) [] e

unfoldable pub new_by : List ℕ → List (List ℕ) → List (List ℕ)
new_by t [] = []
new_by t (a ∷ more) = cond (eqb (get_or t (label_of a) 0) 4294967295) (new_by t more) (a ∷ new_by t more)

-- a removal must have found its label
unfoldable pub found_of : ℕ → List ℕ → Bool
found_of p e = cond (is_removal e) (eqb p 4294967295) true

unfoldable pub found_by : List ℕ → List (List ℕ) → Bool
found_by t [] = true
found_by t (a ∷ more) = found_of (get_or t (label_of a) 0) a && found_by t more
