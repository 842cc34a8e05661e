-- Two updates of the small cell as bytes, and what it is in a unit before and after each. Assumes nothing.
use Rattle.std.specs.Prelude.{ℕ}
use mathlib.Core.List.{List, [], ◌∷◌, flatten}
use Rattle.octets.specs.Number.{bytes_of}
use Rattle.table.specs.Text.{bytes}
use Rattle.header.specs.First.{first_record}
use Rattle.held.specs.Chart.{Chart}
use Rattle.loader.specs.Admit.{cell_chart}
use Rattle.loader.specs.Apply.{updated_by}
use Rattle.witness.specs.Records.{field_end, declared, declared_first, declared_dsid, declared_dssi, declared_vrid, declared_pairs, declared_frid, declared_foid, cell_heading}
use Rattle.witness.specs.Records.{update_heading, parameters, vrid, pair, node, edge, frid, foid, feature}
use Rattle.witness.specs.SmallCell.{small}

-- ---- update 1 moves node 2
-- record 0 of an update of vectors
unfoldable pub vector_first : List ℕ
vector_first =
    flatten
    (bytes "004383LE1 0900095 ! 3304" ∷ bytes "0000001000" ∷ bytes "0001017001" ∷ bytes "DSID136018" ∷ bytes "DSSI077154" ∷ bytes "VRID048231" ∷ bytes "SGCC036279"
    ∷ bytes "SG2D028315" ∷ field_end
    ∷ declared_first ∷ declared_dsid ∷ declared_dssi ∷ declared_vrid ∷ declared "CCUI!CCIX!CCNC" "(b11,2b12)" ∷ declared_pairs ∷ [])

-- a modify of node 2: its SGCC replaces the pair at this index by one with this XCOO
unfoldable pub shift : ℕ → ℕ → List ℕ
shift index x =
    flatten
    (bytes "00080 D     00053   1204" ∷ bytes "0001300" ∷ bytes "VRID903" ∷ bytes "SGCC612" ∷ bytes "SG2D918" ∷ field_end
    ∷ bytes_of 2 2 ∷ field_end ∷ vrid 120 2 2 3 ∷ field_end ∷ (3 ∷ []) ∷ bytes_of 2 index ∷ bytes_of 2 1 ∷ field_end ∷ pair x ∷ field_end ∷ [])

-- update 1, of one record
unfoldable pub vector_update : List ℕ → List ℕ
vector_update change = flatten (vector_first ∷ update_heading "001" "1" "        20240201" ∷ change ∷ [])

unfoldable pub moving : List ℕ
moving = vector_update (shift 1 20000000)

-- ---- update 2 deletes the line
unfoldable pub deleting : List ℕ
deleting =
    flatten
    (bytes "004243LE1 0900085 ! 3304" ∷ bytes "0000001000" ∷ bytes "0001017001" ∷ bytes "DSID136018" ∷ bytes "DSSI077154" ∷ bytes "FRID069231" ∷ bytes "FOID039300" ∷ field_end
    ∷ declared_first ∷ declared_dsid ∷ declared_dssi ∷ declared_frid ∷ declared_foid
    ∷ update_heading "002" "2" "        20240301"
    ∷ bytes "00074 D     00049   2204" ∷ bytes "00010300" ∷ bytes "FRID1303" ∷ bytes "FOID0916" ∷ field_end
    ∷ bytes_of 2 2 ∷ field_end ∷ frid 2 2 2 ∷ field_end ∷ foid ∷ field_end ∷ [])

-- ---- the charts
abbrev pub chart_small : Chart
chart_small = cell_chart small

abbrev pub chart_moved : Chart
chart_moved = updated_by chart_small moving

abbrev pub chart_deleted : Chart
chart_deleted = updated_by chart_moved deleting

-- ---- their held forms: node 1 stands before node 2
unfoldable pub held_small : List ℕ
held_small = flatten (first_record ∷ cell_heading "0" "2024010120240101" 1 ∷ parameters ∷ node 3 1 1 0 ∷ node 4 2 1 10000000 ∷ edge 1 2 ∷ feature 2 255 ∷ [])

-- node 2 has moved: "UPDN, and UADT and ISDT, which become the update's ISDT"
unfoldable pub held_moved : List ℕ
held_moved = flatten (first_record ∷ cell_heading "1" "2024020120240201" 1 ∷ parameters ∷ node 3 1 1 0 ∷ node 4 2 2 20000000 ∷ edge 1 2 ∷ feature 2 255 ∷ [])

-- the line is gone: no geo object is left
unfoldable pub held_deleted : List ℕ
held_deleted = flatten (first_record ∷ cell_heading "2" "2024030120240301" 0 ∷ parameters ∷ node 3 1 1 0 ∷ node 4 2 2 20000000 ∷ edge 1 2 ∷ [])
