-- Two small cells as bytes: two connected nodes, their edge and a line; and one whose edge ends where it begins, with an area in the line's place. Assumes nothing.
use Rattle.std.specs.Prelude.{ℕ}
use mathlib.Core.List.{List, [], ◌∷◌, flatten}
use Rattle.table.specs.Text.{bytes}
use Rattle.witness.specs.Records.{field_end, declared, declared_first, declared_dsid, declared_dssi, declared_vrid, declared_pairs, declared_frid, declared_foid, cell_heading}
use Rattle.witness.specs.Records.{parameters, node, edge, feature}

-- record 0, which declares the tags that are used
unfoldable pub cell_first : List ℕ
cell_first =
    flatten
    (bytes "007493LE1 0900135 ! 3304" ∷ bytes "0000001000" ∷ bytes "0001017001" ∷ bytes "DSID136018" ∷ bytes "DSSI077154" ∷ bytes "DSPM106231" ∷ bytes "VRID048337"
    ∷ bytes "VRPT049385" ∷ bytes "SG2D028434" ∷ bytes "FRID069462" ∷ bytes "FOID039531" ∷ bytes "FSPT044570" ∷ field_end
    ∷ declared_first ∷ declared_dsid ∷ declared_dssi
    ∷ declared "RCNM!RCID!HDAT!VDAT!SDAT!CSCL!DUNI!HUNI!PUNI!COUN!COMF!SOMF!COMT" "(b11,b14,3b11,b14,4b11,2b14,A)"
    ∷ declared_vrid
    ∷ declared "*NAME!ORNT!USAG!TOPI!MASK" "(B(40),4b11)"
    ∷ declared_pairs ∷ declared_frid ∷ declared_foid
    ∷ declared "*NAME!ORNT!USAG!MASK" "(B(40),3b11)"
    ∷ [])

-- records 0 to 4: the nodes 2 and 1, in this order, which is not the held one
unfoldable pub cell_front : List ℕ
cell_front = flatten (cell_first ∷ cell_heading "0" "2024010120240101" 1 ∷ parameters ∷ node 3 2 1 10000000 ∷ node 4 1 1 0 ∷ [])

-- an edge from node 1 to node 2 and a line along it: 1,265 bytes, record 3 at 960, 4 at 1,027, 5 at 1,094, 6 at 1,174
unfoldable pub small : List ℕ
small = flatten (cell_front ∷ edge 1 2 ∷ feature 2 255 ∷ [])

-- an edge from node 1 to node 1 and an area within it: as long, with its records at the same places
unfoldable pub ringed : List ℕ
ringed = flatten (cell_front ∷ edge 1 1 ∷ feature 3 1 ∷ [])
