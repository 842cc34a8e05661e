-- The records that the small files are made of, as bytes: leader, directory and fields as document 01 has them. Assumes nothing.
use Rattle.std.specs.Prelude.{ℕ}
use Prim.Native.String.{String}
use mathlib.Core.List.{List, [], ◌∷◌, flatten}
use Rattle.octets.specs.Number.{bytes_of}
use Rattle.table.specs.Text.{bytes}

-- "each field ends in 1E", "A without a size ends in 1F"
abbrev pub field_end : List ℕ
field_end = 30 ∷ []

abbrev pub text_end : List ℕ
text_end = 31 ∷ []

-- ---- record 0
-- "A field is nine bytes not judged, a name, 1F, labels .., 1F, formats, 1E": one with an empty name
unfoldable pub declared : String → String → List ℕ
declared labels formats = flatten (bytes "1600;&   " ∷ text_end ∷ bytes labels ∷ text_end ∷ bytes formats ∷ field_end ∷ [])

-- "tag 0000 first (content not judged), then 0001"
unfoldable pub declared_first : List ℕ
declared_first = flatten (field_end ∷ declared "" "(b12)" ∷ [])

unfoldable pub declared_dsid : List ℕ
declared_dsid = declared "RCNM!RCID!EXPP!INTU!DSNM!EDTN!UPDN!UADT!ISDT!STED!PRSP!PSDN!PRED!PROF!AGEN!COMT" "(b11,b14,2b11,3A,2A(8),R(4),b11,2A,b11,b12,A)"

unfoldable pub declared_dssi : List ℕ
declared_dssi = declared "DSTR!AALL!NALL!NOMR!NOCR!NOGR!NOLR!NOIN!NOCN!NOED!NOFA" "(3b11,8b14)"

unfoldable pub declared_vrid : List ℕ
declared_vrid = declared "RCNM!RCID!RVER!RUIN" "(b11,b14,b12,b11)"

unfoldable pub declared_pairs : List ℕ
declared_pairs = declared "*YCOO!XCOO" "(2b24)"

unfoldable pub declared_frid : List ℕ
declared_frid = declared "RCNM!RCID!PRIM!GRUP!OBJL!RVER!RUIN" "(b11,b14,2b11,2b12,b11)"

unfoldable pub declared_foid : List ℕ
declared_foid = declared "AGEN!FIDN!FIDS" "(b12,b14,b12)"

-- ---- record 1: "then 0001 DSID DSSI"
-- EXPP and PROF, three digits of DSNM, UPDN, and UADT and ISDT side by side
unfoldable pub dsid : ℕ → String → String → String → List ℕ
dsid profile extension number dates =
    flatten
    ((10 ∷ []) ∷ bytes_of 4 1 ∷ (profile ∷ 5 ∷ []) ∷ bytes "AB5SMALL." ∷ bytes extension ∷ text_end ∷ bytes "1" ∷ text_end ∷ bytes number ∷ text_end
    ∷ bytes dates ∷ bytes "03.1" ∷ (1 ∷ []) ∷ text_end ∷ bytes "2.0" ∷ text_end ∷ (profile ∷ []) ∷ bytes_of 2 540 ∷ text_end ∷ [])

-- DSTR, AALL, NALL, NOMR, NOCR, NOGR, NOLR, NOIN, NOCN, NOED, NOFA
unfoldable pub dssi : ℕ → ℕ → ℕ → List ℕ
dssi geo connected edges =
    flatten ((2 ∷ 0 ∷ 0 ∷ []) ∷ bytes_of 4 0 ∷ bytes_of 4 0 ∷ bytes_of 4 geo ∷ bytes_of 4 0 ∷ bytes_of 4 0 ∷ bytes_of 4 connected ∷ bytes_of 4 edges ∷ bytes_of 4 0 ∷ [])

unfoldable pub heading : List ℕ → List ℕ → List ℕ
heading identification structure =
    flatten
    (bytes "00143 D     00049   2204" ∷ bytes "00010300" ∷ bytes "DSID5503" ∷ bytes "DSSI3658" ∷ field_end
    ∷ bytes_of 2 1 ∷ field_end ∷ identification ∷ field_end ∷ structure ∷ field_end ∷ [])

-- of a cell at this UPDN and these dates, with this many geo objects: two nodes and an edge
unfoldable pub cell_heading : String → String → ℕ → List ℕ
cell_heading number dates geo = heading (dsid 1 "000" number dates) (dssi geo 2 1)

-- of an update; its counts are free
unfoldable pub update_heading : String → String → String → List ℕ
update_heading extension number date = heading (dsid 2 extension number date) (dssi 0 0 0)

-- ---- record 2: "then 0001 DSPM"; COMF is 10,000,000
unfoldable pub parameters : List ℕ
parameters =
    flatten
    (bytes "00068 D     00039   2104" ∷ bytes "0001030" ∷ bytes "DSPM263" ∷ field_end
    ∷ bytes_of 2 2 ∷ field_end
    ∷ (20 ∷ []) ∷ bytes_of 4 1 ∷ (2 ∷ 23 ∷ 23 ∷ []) ∷ bytes_of 4 10000 ∷ (1 ∷ 1 ∷ 1 ∷ 1 ∷ []) ∷ bytes_of 4 10000000 ∷ bytes_of 4 10 ∷ text_end ∷ field_end ∷ [])

-- ---- vectors and features; 0001 has the running number
-- RCNM, RCID, RVER, RUIN
unfoldable pub vrid : ℕ → ℕ → ℕ → ℕ → List ℕ
vrid rcnm rcid version ruin = flatten ((rcnm ∷ []) ∷ bytes_of 4 rcid ∷ bytes_of 2 version ∷ (ruin ∷ []) ∷ [])

-- YCOO 0 and this XCOO
unfoldable pub pair : ℕ → List ℕ
pair x = flatten (bytes_of 4 0 ∷ bytes_of 4 x ∷ [])

-- a connected node: running number, RCID, RVER, XCOO
unfoldable pub node : ℕ → ℕ → ℕ → ℕ → List ℕ
node number rcid version x =
    flatten
    (bytes "00067 D     00046   1204" ∷ bytes "0001300" ∷ bytes "VRID903" ∷ bytes "SG2D912" ∷ field_end
    ∷ bytes_of 2 number ∷ field_end ∷ vrid 120 rcid version 1 ∷ field_end ∷ pair x ∷ field_end ∷ [])

-- "one TOPI 1 (begin) and one TOPI 2 (end), the rest 255, naming class 120"
unfoldable pub end : ℕ → ℕ → List ℕ
end rcid topi = flatten ((120 ∷ []) ∷ bytes_of 4 rcid ∷ (255 ∷ 255 ∷ topi ∷ 255 ∷ []) ∷ [])

-- edge 1, from one node to another
unfoldable pub edge : ℕ → ℕ → List ℕ
edge from to =
    flatten
    (bytes "00080 D     00049   2204" ∷ bytes "00010300" ∷ bytes "VRID0903" ∷ bytes "VRPT1912" ∷ field_end
    ∷ bytes_of 2 5 ∷ field_end ∷ vrid 130 1 1 1 ∷ field_end ∷ end from 1 ∷ end to 2 ∷ field_end ∷ [])

-- FRID of feature 1, OBJL 30: PRIM, RVER, RUIN
unfoldable pub frid : ℕ → ℕ → ℕ → List ℕ
frid prim version ruin = flatten ((100 ∷ []) ∷ bytes_of 4 1 ∷ (prim ∷ 2 ∷ []) ∷ bytes_of 2 30 ∷ bytes_of 2 version ∷ (ruin ∷ []) ∷ [])

-- its FOID: AGEN, FIDN, FIDS
unfoldable pub foid : List ℕ
foid = flatten (bytes_of 2 540 ∷ bytes_of 4 1 ∷ bytes_of 2 1 ∷ [])

-- feature 1 along edge 1: PRIM and USAG; ORNT 1, MASK 2
unfoldable pub feature : ℕ → ℕ → List ℕ
feature prim usage =
    flatten
    (bytes "00091 D     00057   2204" ∷ bytes "00010300" ∷ bytes "FRID1303" ∷ bytes "FOID0916" ∷ bytes "FSPT0925" ∷ field_end
    ∷ bytes_of 2 6 ∷ field_end ∷ frid prim 1 1 ∷ field_end ∷ foid ∷ field_end
    ∷ (130 ∷ []) ∷ bytes_of 4 1 ∷ (1 ∷ usage ∷ 2 ∷ []) ∷ field_end ∷ [])
