-- The record of the object that a modify makes, as it is built: its lists in an area from 256 on, and in front of them what stands before lists.
-- Nothing here need be believed: what the record has is `amended` of the crate `changes`, in the form of the crate `itemfields`. Assumes nothing.
use Rattle.std.specs.Prelude.{ℕ, ◌+◌, ◌≤◌, ◌<◌, true, List, [], ◌∷◌, ◌++◌, ◌≡◌, length, take, drop}
use Rattle.octets.specs.Number.{bytes_of}
use Rattle.octets.specs.Area.{Has}
use Rattle.iso8211.specs.Field.{field_at}
use Rattle.items.specs.Identity.{id_at, rcnm_at, version_at}
use Rattle.items.specs.Lists.{list_at}
use Rattle.records.specs.Pieces.{Piece}
use Rattle.records.specs.Written.{body_of, head_bytes, record_bytes, size_of}
use Rattle.items.specs.Item.{item_at}
use Rattle.itemfields.specs.Fields.{vector_kinds, feature_kinds, item_pieces}
use Rattle.edits.specs.Lists.{lists_allowed}
use Rattle.itemrows.specs.Plain.{tags_of}
use Rattle.itemrows.specs.Joined.{field_pieces, bytes_for, sum_by, sum_of, list_rows, Small}
use Rattle.changes.specs.Change.{amendment_at, edit_of}
use Rattle.changes.specs.Amend.{kinds_of}
use Rattle.changes.specs.Updated.{amended}
use Rattle.amend.specs.Sides.{Totaled}
use Rattle.amend.specs.Pairs.{Paired}

-- how many bytes the lists k of both records have, each with a 1E
abbrev pub both_for : List ℕ → ℕ → List ℕ → ℕ → ℕ → ℕ
both_for cell at update by k = bytes_for (length (list_at cell at k)) + bytes_for (length (list_at update by k))

-- the lists of these kinds, each with a 1E, are together not longer than a record
pub record Summed (s : List ℕ) (at : ℕ) (kinds : List ℕ) : Type 0 where
  pub is : sum_by (λ (k : ℕ). bytes_for (length (list_at s at k))) kinds ≤ 99999

-- a record of the cell and a modify that may edit it: "RVER is the held plus 1; at 65,535 none fits"
pub record Editable (cell : List ℕ) (at : ℕ) (update : List ℕ) (by : ℕ) : Type 0 where
  pub paired : Paired cell at update by
  pub allowed : lists_allowed (kinds_of (rcnm_at cell at)) (edit_of (amendment_at update by)) (item_at cell at).lists ≡ true
  pub old_sum : Summed cell at (kinds_of (rcnm_at cell at))
  pub new_sum : Summed update by (kinds_of (rcnm_at cell at))
  pub low : version_at cell at < 65535

-- the fields of the result
abbrev pub edited_pieces : List ℕ → ℕ → List ℕ → ℕ → List Piece
edited_pieces cell at update by = item_pieces 0 (amended (amendment_at update by) (item_at cell at))

-- they stand as a record in the area from r on; the record may be longer than a record of a file may be
pub record EditedPut (cell : List ℕ) (at : ℕ) (update : List ℕ) (by : ℕ) (area : List ℕ) (r : ℕ) : Type 0 where
  pub has : Has area r (record_bytes (edited_pieces cell at update by))
  pub some : 1 ≤ r
  pub fits : r + size_of (edited_pieces cell at update by) ≤ length area
  pub small : size_of (edited_pieces cell at update by) ≤ 300000

-- ---- the lists: they stand from 256 on, each with its 1E, and these are their lengths
pub record ListsPut (bytes : ℕ → List ℕ) (kinds : List ℕ) (area totals : List ℕ) : Type 0 where
  pub has : Has area 256 (body_of (field_pieces kinds bytes))
  pub short : length (body_of (field_pieces kinds bytes)) ≤ 199998
  pub totaled : Totaled bytes kinds totals
  pub small : Small totals

-- ---- what stands before them: leader and directory, then 0001 with the number 0 and the identifier fields
unfoldable pub vector_head : List ℕ → List ℕ
vector_head totals = head_bytes (((808464433 ∷ 3 ∷ 0 ∷ []) ∷ (1448233284 ∷ 9 ∷ 3 ∷ []) ∷ []) ++ list_rows 12 (tags_of vector_kinds) totals) (12 + sum_of totals)

unfoldable pub feature_head : List ℕ → List ℕ
feature_head totals =
    head_bytes (((808464433 ∷ 3 ∷ 0 ∷ []) ∷ (1179797828 ∷ 13 ∷ 3 ∷ []) ∷ (1179601220 ∷ 9 ∷ 16 ∷ []) ∷ []) ++ list_rows 25 (tags_of feature_kinds) totals) (25 + sum_of totals)

-- RVER, RUIN 1 and the 1E
unfoldable pub version_bytes : ℕ → List ℕ
version_bytes v = bytes_of 2 v ++ (1 ∷ 30 ∷ [])

-- 0001, then n bytes of the identifier field as they stand, and the version v
unfoldable pub id_front : List ℕ → ℕ → ℕ → ℕ → List ℕ
id_front s at n v = (bytes_of 2 0 ++ (30 ∷ take n (drop (id_at s at) s))) ++ version_bytes v

unfoldable pub foid_bytes : List ℕ → ℕ → List ℕ
foid_bytes s at = take 8 (drop (field_at s at 2).start s) ++ (30 ∷ [])
