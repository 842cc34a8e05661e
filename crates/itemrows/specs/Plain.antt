-- Items that can be copied, and records that stand as in held form already. This serves the code and its proofs, and nothing here need be
-- believed: what is promised of an item is `item_pieces` of the crate `itemfields`. Assumes nothing.
use Rattle.std.specs.Prelude.{ℕ, ◌+◌, ◌-◌, ◌≤◌, Bool, true, cond, List, [], ◌∷◌, ◌⊎◌, ◌≡◌, drop, get_or, eqb}
use Rattle.octets.specs.Number.{byte_at}
use Rattle.iso8211.specs.Directory.{tag, len, position}
use Rattle.iso8211.specs.Field.{count_at, directory_at}
use Rattle.table.specs.Table.{first, VRID, tag_of}
use Rattle.layout.specs.Record.{kind_at}
use Rattle.items.specs.Identity.{id_at, rcnm_at}
use Rattle.items.specs.Premises.{LaidOut, Identified}
use Rattle.records.specs.Written.{size_of}
use Rattle.items.specs.Item.{Item, item_at}
use Rattle.itemfields.specs.Fields.{item_pieces, vector_kinds, feature_kinds}

-- ---- an item of a cell whose record can be copied
pub record Writable (s : List ℕ) (at : ℕ) : Type 0 where
  pub laid : LaidOut s at
  pub known : Identified s at
  pub vector : (rcnm_at s at ≡ 100 → ⊥) → (kind_at s at 1 ≡ VRID) × (byte_at s (id_at s at + 7) ≡ 1)
  pub feature : rcnm_at s at ≡ 100 → byte_at s (id_at s at + 11) ≡ 1

-- the same with what it is known to be: an item whose record was written at `at`, be it in a work area
pub record Stood (s : List ℕ) (at : ℕ) (t : Item) : Type 0 where
  pub able : Writable s at
  pub same : item_at s at ≡ t

-- its record in held form has r bytes, whatever its running number
pub record ItemSized (s : List ℕ) (at r : ℕ) : Type 0 where
  pub is : (number : ℕ) → r ≡ size_of (item_pieces number (item_at s at))
  pub few : r ≤ 1300000

-- ---- "one field a list", in held order: rows whose fields can be copied as they stand
unfoldable pub tags_of : List ℕ → List ℕ
tags_of [] = []
tags_of (k ∷ ks) = tag_of k ∷ tags_of ks

-- what is left of these rows where each tag in turn takes the next one, if that is its own
unfoldable pub untaken : List ℕ → List (List ℕ) → List (List ℕ)
untaken [] rows = rows
untaken (t ∷ ts) [] = []
untaken (t ∷ ts) (row ∷ rows) = cond (eqb (tag row) t) (untaken ts rows) (untaken ts (row ∷ rows))

-- 0001, then VRID and lists of a vector, or FRID, FOID and lists of a feature: each list in one field, in held order
pub record Plain (rows : List (List ℕ)) : Type 0 where
  pub front : tag (get_or rows 0 []) ≡ tag_of first
  pub lists : ((tag (get_or rows 1 []) ≡ tag_of VRID) × (untaken (tags_of vector_kinds) (drop 2 rows) ≡ []))
      ⊎ ((tag (get_or rows 1 []) ≡ tag_of VRID → ⊥) × (untaken (tags_of feature_kinds) (drop 3 rows) ≡ []))

-- r says that the record at `at` has such rows, at most eight
pub record PlainTold (s : List ℕ) (at : ℕ) (r : Bool) : Type 0 where
  pub few : r ≡ true → count_at s at ≤ 8
  pub is : r ≡ true → Plain (directory_at s at)

-- of n rows, at most eight, the last ends within 300,000 bytes
pub record Ended (rows : List (List ℕ)) (n : ℕ) : Type 0 where
  pub some : 1 ≤ n
  pub few : n ≤ 8
  pub short : len (get_or rows (n - 1) []) + position (get_or rows (n - 1) []) ≤ 300000
