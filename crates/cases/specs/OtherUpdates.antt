-- Other updates of the small cell, most of them number 1: the errors that document 01 has met, and one for each kind of edit. Assumes nothing.
use Rattle.std.specs.Prelude.{ℕ}
use Prim.Native.String.{String}
use mathlib.Core.List.{List, [], ◌∷◌, flatten}
use Rattle.octets.specs.Number.{bytes_of}
use Rattle.table.specs.Text.{bytes}
use Rattle.header.specs.First.{first_record}
use Rattle.witness.specs.Records.{field_end, text_end, declared, declared_first, declared_dsid, declared_dssi, declared_vrid, declared_frid, declared_foid, cell_heading, update_heading}
use Rattle.witness.specs.Records.{parameters, vrid, node, edge, frid, foid, feature}
use Rattle.witness.specs.SmallUpdates.{shift, vector_update}

-- ---- a second update 1: node 2 moves to another place; and what is held then
unfoldable pub elsewhere : List ℕ
elsewhere = vector_update (shift 1 30000000)

unfoldable pub held_elsewhere : List ℕ
held_elsewhere = flatten (first_record ∷ cell_heading "1" "2024020120240201" 1 ∷ parameters ∷ node 3 1 1 0 ∷ node 4 2 2 30000000 ∷ edge 1 2 ∷ feature 2 255 ∷ [])

-- ---- "Counting list indexes from 0": a control with index 0
unfoldable pub from_zero : List ℕ
from_zero = vector_update (shift 0 20000000)

-- ---- "Resolving pointers before the update's own deletes"
-- a vector's delete: running number, RCNM, RCID
unfoldable pub vector_delete : ℕ → ℕ → ℕ → List ℕ
vector_delete number rcnm rcid =
    flatten (bytes "00049 D     00037   1104" ∷ bytes "000130" ∷ bytes "VRID93" ∷ field_end ∷ bytes_of 2 number ∷ field_end ∷ vrid rcnm rcid 2 2 ∷ field_end ∷ [])

-- node 2 alone, at which the edge ends
unfoldable pub sinking : List ℕ
sinking = vector_update (vector_delete 2 120 2)

-- ---- an insert: node 3
unfoldable pub inserting : List ℕ
inserting = vector_update (node 2 3 1 5000000)

-- ---- updates of vectors and of the line: UPDN as three digits and as it is, and their records
unfoldable pub line_update : String → String → List ℕ → List ℕ
line_update extension number changes =
    flatten
    (bytes "006213LE1 0900125 ! 3304" ∷ bytes "0000001000" ∷ bytes "0001017001" ∷ bytes "DSID136018" ∷ bytes "DSSI077154" ∷ bytes "VRID048231" ∷ bytes "FRID069279"
    ∷ bytes "FOID039348" ∷ bytes "ATTF029387" ∷ bytes "FSPC036416" ∷ bytes "FSPT044452" ∷ field_end
    ∷ declared_first ∷ declared_dsid ∷ declared_dssi ∷ declared_vrid ∷ declared_frid ∷ declared_foid ∷ declared "*ATTL!ATVL" "(b12,A)" ∷ declared "FSUI!FSIX!NSPT" "(b11,2b12)"
    ∷ declared "*NAME!ORNT!USAG!MASK" "(B(40),3b11)" ∷ update_heading extension number "        20240201" ∷ changes ∷ [])

-- node 2, the edge and the line are deleted, in this order
unfoldable pub clearing : List ℕ
clearing =
    line_update "001" "1"
    (flatten
    (vector_delete 2 120 2 ∷ vector_delete 3 130 1
    ∷ bytes "00074 D     00049   2204" ∷ bytes "00010300" ∷ bytes "FRID1303" ∷ bytes "FOID0916" ∷ field_end
    ∷ bytes_of 2 4 ∷ field_end ∷ frid 2 2 2 ∷ field_end ∷ foid ∷ field_end ∷ []))

-- ---- "Taking an empty value as removal": a modify of the line whose ATTF has the label 116 and this value; the record's and ATTF's length in digits
unfoldable pub valued : String → String → ℕ → List ℕ → List ℕ
valued leader row version value =
    flatten
    (bytes leader ∷ bytes "00010300" ∷ bytes "FRID1303" ∷ bytes "FOID0916" ∷ bytes row ∷ field_end
    ∷ bytes_of 2 2 ∷ field_end ∷ frid 2 version 3 ∷ field_end ∷ foid ∷ field_end ∷ bytes_of 2 116 ∷ value ∷ text_end ∷ field_end ∷ [])

-- update 1 gives the line the value A, update 2 an empty one, update 3 the value 7F
unfoldable pub naming : List ℕ
naming = line_update "001" "1" (valued "00087 D     00057   2204" "ATTF0525" 2 (65 ∷ []))

unfoldable pub emptying : List ℕ
emptying = line_update "002" "2" (valued "00086 D     00057   2204" "ATTF0425" 3 [])

unfoldable pub removing : List ℕ
removing = line_update "003" "3" (valued "00087 D     00057   2204" "ATTF0525" 4 (127 ∷ []))

-- ---- the line's FSPC replaces its one pointer: MASK is 1
unfoldable pub masking : List ℕ
masking =
    line_update "001" "1"
    (flatten
    (bytes "00105 D     00065   2204" ∷ bytes "00010300" ∷ bytes "FRID1303" ∷ bytes "FOID0916" ∷ bytes "FSPC0625" ∷ bytes "FSPT0931" ∷ field_end
    ∷ bytes_of 2 2 ∷ field_end ∷ frid 2 2 3 ∷ field_end ∷ foid ∷ field_end ∷ (3 ∷ []) ∷ bytes_of 2 1 ∷ bytes_of 2 1 ∷ field_end
    ∷ (130 ∷ []) ∷ bytes_of 4 1 ∷ (1 ∷ 255 ∷ 1 ∷ []) ∷ field_end ∷ []))

-- ---- a modify of the line with this RVER and this OBJL, and an FSPT without FSPC
unfoldable pub faulty : ℕ → ℕ → List ℕ
faulty version class =
    line_update "001" "1"
    (flatten
    (bytes "00091 D     00057   2204" ∷ bytes "00010300" ∷ bytes "FRID1303" ∷ bytes "FOID0916" ∷ bytes "FSPT0925" ∷ field_end
    ∷ bytes_of 2 2 ∷ field_end ∷ (100 ∷ []) ∷ bytes_of 4 1 ∷ (2 ∷ 2 ∷ []) ∷ bytes_of 2 class ∷ bytes_of 2 version ∷ (3 ∷ []) ∷ field_end ∷ foid ∷ field_end
    ∷ (130 ∷ []) ∷ bytes_of 4 1 ∷ (1 ∷ 255 ∷ 1 ∷ []) ∷ field_end ∷ []))
