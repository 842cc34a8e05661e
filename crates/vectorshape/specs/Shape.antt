-- Document 01's Shape, of one item: how many coordinates and pointers it has, and what stands in them. Assumes nothing.
use Rattle.std.specs.Prelude.{ℕ, ◌+◌, ◌-◌, ◌*◌, Bool, not, cond, ◌&&◌, ◌||◌, List, length, eqb, leb, ltb}
use Rattle.answers.specs.Codes.{SHAPE}
use Rattle.octets.specs.Number.{byte_at, num_at}
use Rattle.entries.specs.Rules.{all_of, through}
use Rattle.table.specs.Table.{VRPT, SG2D, SG3D, FSPT}
use Rattle.values.specs.Class.{is_collection}
use Rattle.items.specs.Item.{Item}
use Rattle.table.specs.Offsets.{XCOO, VRPT_ORNT, VRPT_USAG, VRPT_TOPI, VRPT_MASK, FSPT_ORNT, FSPT_USAG, FSPT_MASK}

-- "b2n is signed": how far from 0 a number of four bytes is
unfoldable pub magnitude : ℕ → ℕ
magnitude u = cond (ltb u 2147483648) u (4294967296 - u)

-- "Coordinates within ±90 and ±180 times COMF, ends allowed": Y, then X, of a pair or a sounding
unfoldable pub pair_good : ℕ → List ℕ → Bool
pair_good comf e = leb (magnitude (num_at e 0 4)) (90 * comf) && leb (magnitude (num_at e XCOO 4)) (180 * comf)

unfoldable pub coordinates_good : ℕ → Item → Bool
coordinates_good comf i = all_of (pair_good comf) (i.lists SG2D) && all_of (pair_good comf) (i.lists SG3D)

-- how many entries the list of kind k has
abbrev pub many : Item → ℕ → ℕ
many i k = length (i.lists k)

-- "Isolated node: one 2-D pair, or one or more soundings"; "Nodes have no VRPT"
unfoldable pub isolated_good : Item → Bool
isolated_good i =
    eqb (many i VRPT) 0 && ((eqb (many i SG2D) 1 && eqb (many i SG3D) 0) || (eqb (many i SG2D) 0 && leb 1 (many i SG3D)))

-- "Connected node: one pair"
unfoldable pub connected_good : Item → Bool
connected_good i = eqb (many i VRPT) 0 && (eqb (many i SG2D) 1 && eqb (many i SG3D) 0)

-- "two VRPT, one TOPI 1 (begin) and one TOPI 2 (end), the rest 255, naming class 120": one VRPT, its NAME of five bytes, then ORNT, USAG,
-- TOPI and MASK
unfoldable pub end_good : List ℕ → Bool
end_good e =
    eqb (byte_at e 0) 120
    && (eqb (byte_at e VRPT_ORNT) 255 && (eqb (byte_at e VRPT_USAG) 255 && (leb 1 (byte_at e VRPT_TOPI) && (leb (byte_at e VRPT_TOPI) 2 && eqb (byte_at e VRPT_MASK) 255))))

unfoldable pub add_topi : ℕ → List ℕ → ℕ
add_topi sum e = sum + byte_at e VRPT_TOPI

-- "Edge: pairs only, none allowed"; of two TOPI, each 1 or 2, one is 1 and one is 2 exactly if their sum is 3
unfoldable pub edge_good : Item → Bool
edge_good i =
    eqb (many i SG3D) 0
    && (eqb (many i VRPT) 2 && (all_of end_good (i.lists VRPT) && eqb (through add_topi 0 (i.lists VRPT)) 3))

-- a vector has the coordinates and pointers of its class, RCNM 110, 120 or 130
unfoldable pub class_good : Item → Bool
class_good i = cond (eqb i.rcnm 110) (isolated_good i) (cond (eqb i.rcnm 120) (connected_good i) (edge_good i))

unfoldable pub vector_good : ℕ → Item → Bool
vector_good comf i = class_good i && coordinates_good comf i

-- class 110 or 120
unfoldable pub is_node : ℕ → Bool
is_node v = eqb v 110 || eqb v 120

-- one FSPT: its NAME of five bytes, then ORNT, USAG and MASK
-- "PRIM 1: one FSPT to class 110 or 120, rest 255"
unfoldable pub point_good : List ℕ → Bool
point_good e = is_node (byte_at e 0) && (eqb (byte_at e FSPT_ORNT) 255 && (eqb (byte_at e FSPT_USAG) 255 && eqb (byte_at e FSPT_MASK) 255))

-- 1 or 2
unfoldable pub one_or_two : ℕ → Bool
one_or_two v = eqb v 1 || eqb v 2

-- "PRIM 2: one or more edges, ORNT 1 or 2, USAG 255, MASK 1 or 2"
unfoldable pub line_good : List ℕ → Bool
line_good e = eqb (byte_at e 0) 130 && (one_or_two (byte_at e FSPT_ORNT) && (eqb (byte_at e FSPT_USAG) 255 && one_or_two (byte_at e FSPT_MASK)))

-- "PRIM 3: one or more edges, ORNT 1 or 2, USAG 1, 2 or 3; MASK 255 if USAG is 3, else 1 or 2"
unfoldable pub area_good : List ℕ → Bool
area_good e =
    eqb (byte_at e 0) 130
    && (one_or_two (byte_at e FSPT_ORNT) && (cond (eqb (byte_at e FSPT_USAG) 3) (eqb (byte_at e FSPT_MASK) 255) (one_or_two (byte_at e FSPT_USAG) && one_or_two (byte_at e FSPT_MASK))))

unfoldable pub spatial_good : ℕ → List ℕ → Bool
spatial_good prim e = cond (eqb prim 1) (point_good e) (cond (eqb prim 2) (line_good e) (area_good e))

-- one for a point, one or more else
unfoldable pub spatial_count : ℕ → ℕ → Bool
spatial_count prim n = cond (eqb prim 1) (eqb n 1) (leb 1 n)

-- "PRIM 255 exactly for collections, no FSPT"
unfoldable pub feature_good : Item → Bool
feature_good i =
    cond (eqb i.prim 255) (is_collection i.objl && eqb (many i FSPT) 0)
    (not (is_collection i.objl) && (spatial_count i.prim (many i FSPT) && all_of (spatial_good i.prim) (i.lists FSPT)))

-- a feature by its primitive, a vector by its class: PRIM is 1, 2, 3 or 255 and RCNM 110, 120, 130 or 100 by Value
unfoldable pub shape_good : ℕ → Item → Bool
shape_good comf i = cond (eqb i.rcnm 100) (feature_good i) (vector_good comf i)

-- "All so far is Shape": code 17, or 0 for an item without fault
unfoldable pub shape_code : ℕ → Item → ℕ
shape_code comf i = cond (shape_good comf i) 0 SHAPE
