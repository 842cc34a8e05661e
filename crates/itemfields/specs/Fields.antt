-- The fields that a vector or a feature has in the held form. Assumes nothing.
use Rattle.std.specs.Prelude.{ℕ, cond}
use mathlib.Core.List.{List, [], ◌∷◌, ◌++◌, flatten}
use Rattle.octets.specs.Number.{bytes_of}
use Rattle.table.specs.Table.{tag_of, first, VRID, ATTV, VRPT, SG2D, SG3D, FRID, FOID, ATTF, NATF, FFPT, FSPT}
use Rattle.items.specs.Item.{Item, is_feature}
use Rattle.records.specs.Pieces.{Piece}

-- ---- the held form
abbrev pub piece : ℕ → List ℕ → Piece
piece k c = record { named = tag_of k; content = c }

-- "one field a list, no empty lists"
unfoldable pub list_piece : ℕ → List (List ℕ) → List Piece
list_piece k [] = []
list_piece k (e ∷ es) = piece k (flatten (e ∷ es)) ∷ []

unfoldable pub list_pieces : List ℕ → (ℕ → List (List ℕ)) → List Piece
list_pieces [] ls = []
list_pieces (k ∷ ks) ls = list_piece k (ls k) ++ list_pieces ks ls

abbrev pub vector_kinds : List ℕ
vector_kinds = ATTV ∷ VRPT ∷ SG2D ∷ SG3D ∷ []

abbrev pub feature_kinds : List ℕ
feature_kinds = ATTF ∷ NATF ∷ FFPT ∷ FSPT ∷ []

-- "RUIN 1"
unfoldable pub vrid_bytes : Item → List ℕ
vrid_bytes t = bytes_of 1 t.rcnm ++ (bytes_of 4 t.rcid ++ (bytes_of 2 t.version ++ (1 ∷ [])))

unfoldable pub frid_bytes : Item → List ℕ
frid_bytes t =
    bytes_of 1 t.rcnm ++ (bytes_of 4 t.rcid ++ (bytes_of 1 t.prim ++ (bytes_of 1 t.grup ++ (bytes_of 2 t.objl ++ (bytes_of 2 t.version ++ (1 ∷ []))))))

-- the fields of the record with the running number n
unfoldable pub vector_pieces : ℕ → Item → List Piece
vector_pieces n t = piece first (bytes_of 2 n) ∷ piece VRID (vrid_bytes t) ∷ list_pieces vector_kinds t.lists

unfoldable pub feature_pieces : ℕ → Item → List Piece
feature_pieces n t = piece first (bytes_of 2 n) ∷ piece FRID (frid_bytes t) ∷ piece FOID (bytes_of 8 t.foid) ∷ list_pieces feature_kinds t.lists

unfoldable pub item_pieces : ℕ → Item → List Piece
item_pieces n t = cond (is_feature t.rcnm) (feature_pieces n t) (vector_pieces n t)
