-- The fields of an item whose lists are joined from the fields of its record, and their rows from numbers alone. This serves the code and
-- its proofs, and nothing here need be believed: what is promised of an item is `item_pieces` of the crate `itemfields`. Assumes nothing.
use Rattle.std.specs.Prelude.{ℕ, ◌+◌, ◌-◌, ◌≤◌, ◌<◌, cond, List, [], ◌∷◌, ◌++◌, ◌≡◌, length, take, drop, get_or, eqb}
use Rattle.octets.specs.Number.{bytes_of}
use Rattle.table.specs.Table.{first, VRID, FRID, FOID}
use Rattle.layout.specs.Record.{content_at}
use Rattle.items.specs.Identity.{id_at}
use Rattle.items.specs.Lists.{list_at}
use Rattle.records.specs.Pieces.{Piece}
use Rattle.records.specs.Written.{body_of, rows_for, size_of}
use Rattle.itemfields.specs.Fields.{piece}
use Rattle.itemrows.specs.Plain.{tags_of}

-- "one field a list, no empty lists", from its bytes
unfoldable pub field_piece : ℕ → List ℕ → List Piece
field_piece k [] = []
field_piece k (b ∷ bs) = piece k (b ∷ bs) ∷ []

unfoldable pub field_pieces : List ℕ → (ℕ → List ℕ) → List Piece
field_pieces [] bytes = []
field_pieces (k ∷ ks) bytes = field_piece k (bytes k) ++ field_pieces ks bytes

-- the identifier fields of a vector (m = 1) and of a feature (m = 2)
unfoldable pub id_kinds : ℕ → List ℕ
id_kinds m = cond (eqb m 1) (VRID ∷ []) (FRID ∷ FOID ∷ [])

-- fields of these kinds as they stand, from field j on
unfoldable pub kept_pieces : List ℕ → List ℕ → ℕ → ℕ → List Piece
kept_pieces [] s at j = []
kept_pieces (k ∷ ks) s at j = piece k (content_at s at j) ∷ kept_pieces ks s at (j + 1)

-- the fields before the lists: 0001 with the running number, and the identifier fields
unfoldable pub lead_pieces : ℕ → List ℕ → ℕ → ℕ → List Piece
lead_pieces number s at m = piece first (bytes_of 2 number) ∷ kept_pieces (id_kinds m) s at 1

-- all fields: "Repeats of a tag join into one list"
unfoldable pub joined_pieces : ℕ → List ℕ → ℕ → ℕ → List ℕ → List Piece
joined_pieces number s at m kinds = lead_pieces number s at m ++ field_pieces kinds (list_at s at)

-- their bytes, as the writer goes: 0001, its 1E, n bytes from `from` on, the lists
unfoldable pub joined_body : ℕ → List ℕ → ℕ → ℕ → ℕ → List ℕ → List ℕ
joined_body number s at from n kinds =
    bytes_of 2 number ++ (30 ∷ (take n (drop from s) ++ body_of (field_pieces kinds (list_at s at))))

-- ---- by numbers: a list of t bytes is a field if t is not 0
unfoldable pub fields_of : ℕ → ℕ
fields_of t = cond (eqb t 0) 0 1

unfoldable pub bytes_for : ℕ → ℕ
bytes_for t = cond (eqb t 0) 0 (t + 1)

unfoldable pub list_row : ℕ → ℕ → ℕ → List (List ℕ)
list_row due tag t = cond (eqb t 0) [] ((tag ∷ (t + 1) ∷ due ∷ []) ∷ [])

unfoldable pub sum_by : (ℕ → ℕ) → List ℕ → ℕ
sum_by f [] = 0
sum_by f (t ∷ ts) = f t + sum_by f ts

abbrev pub count_of : List ℕ → ℕ
count_of ts = sum_by fields_of ts

abbrev pub sum_of : List ℕ → ℕ
sum_of ts = sum_by bytes_for ts

unfoldable pub list_rows : ℕ → List ℕ → List ℕ → List (List ℕ)
list_rows due [] ts = []
list_rows due (g ∷ gs) [] = []
list_rows due (g ∷ gs) (t ∷ ts) = list_row due g t ++ list_rows (due + bytes_for t) gs ts

-- no list is longer than the fields of a record may be
pub record Small (totals : List ℕ) : Type 0 where
  pub each : (i : ℕ) → get_or totals i 0 ≤ 300000

-- how many bytes the four lists of these kinds have
pub record Totals (s : List ℕ) (at : ℕ) (kinds totals : List ℕ) : Type 0 where
  pub is : (i : ℕ) → i < 4 → get_or totals i 0 ≡ length (list_at s at (get_or kinds i 0))
  pub small : Small totals
  pub four : length totals ≡ 4

-- the tags of four kinds
pub record Tagged (kinds tags : List ℕ) : Type 0 where
  pub is : tags ≡ tags_of kinds
  pub four : length kinds ≡ 4

-- what is known of the fields before the lists: how many bytes they have, that those behind 0001 can be copied in one piece, their rows
pub record Lead (s : List ℕ) (at m fixed : ℕ) (rows : List (List ℕ)) : Type 0 where
  pub few : m ≤ 2
  pub least : 3 ≤ fixed
  pub most : fixed ≤ 25
  pub long : (number : ℕ) → length (body_of (lead_pieces number s at m)) ≡ fixed
  pub within : id_at s at + (fixed - 3) ≤ length s
  pub bytes_are : take (fixed - 3) (drop (id_at s at) s) ≡ body_of (kept_pieces (id_kinds m) s at 1)
  pub rows_are : (number : ℕ) → take (1 + m) rows ≡ rows_for 0 (lead_pieces number s at m)

-- the record of such fields has r bytes, whatever its running number
pub record Sized (s : List ℕ) (at m : ℕ) (kinds : List ℕ) (r : ℕ) : Type 0 where
  pub is : (number : ℕ) → r ≡ size_of (joined_pieces number s at m kinds)
  pub few : r ≤ 1300000
