-- Document 01's bench sheet as far as it is proved: one table, computed from the definitions. Assumes nothing.
use Rattle.std.specs.Prelude.{ℕ, ◌+◌, ◌-◌, cond, ◌≡◌, refl, take, eqb}
use mathlib.Core.List.{List, [], ◌∷◌, ◌++◌, flatten}
use Rattle.std.proofs.Math.Option.{Option, none, some}
use Rattle.octets.specs.Number.{num_at, bytes_of}
use Rattle.entries.specs.Rules.{all_of, through}
use Rattle.octets.specs.Digits.{digits_of, fewest, fewest_from}
use Rattle.iso8211.specs.Directory.{len}
use Rattle.table.specs.Table.{ATTV, VRPT, SG2D, FSPT, row_of, table, tag_of, as_number}
use Rattle.table.specs.Text.{bytes}
use Rattle.values.specs.Class.{is_collection}
use Rattle.values.specs.Rule.{within}
use Rattle.items.specs.Identity.{rank_of, name_from}
use Rattle.items.specs.Item.{Item, is_feature}
use Rattle.lookups.specs.Lookup.{name_in, found_code}
use Rattle.names.specs.Held.{place_from, place_in, object_in}
use Rattle.vectorshape.specs.Shape.{magnitude, pair_good, coordinates_good, isolated_good, connected_good, end_good, add_topi, edge_good, class_good, vector_good, is_node, point_good}
use Rattle.vectorshape.specs.Shape.{one_or_two}
use Rattle.vectorshape.specs.Shape.{line_good, area_good, spatial_good, spatial_count, feature_good, shape_good, shape_code}
use Rattle.pointer.specs.Pointer.{names_code, lnams_code, pointer_code}
use Rattle.answers.specs.First.{first_by}
use Rattle.ring.specs.Ring.{node_step, node_with, node_of, nodes_of, found, node_in, step_of, usage_good, along, rings_from, rings_good, ring_code}
use Rattle.records.specs.Pieces.{Piece}
use Rattle.records.specs.Written.{tag_bytes, body_of, rows_for, longest, farthest, row_bytes, rows_bytes, base_for, leader_of, head_over, head_bytes, record_bytes, size_of}
use Rattle.itemfields.specs.Fields.{list_piece, list_pieces, vrid_bytes, vector_pieces, feature_pieces, item_pieces}
use Rattle.attributes.specs.Attributes.{label_of, is_removal}
use Rattle.fieldvalue.specs.Value.{is_attributes}
use Rattle.edits.specs.Control.{Control, gone, come, allowed, edited, edited_by}
use Rattle.edits.specs.AttributeEdit.{named, change, finds, changes, changes_find}
use Rattle.edits.specs.Lists.{is_none, coordinates, control_of, list_allowed, list_edited, allowed_at, lists_allowed, lists_edited}
use Rattle.changes.specs.Change.{Amendment}
use Rattle.changes.specs.Amend as amend
use Rattle.changes.specs.Amend.{held_by, kinds_of, identity_same, edit_allowed, modify_code, amendment_code}
use Rattle.changes.specs.Updated.{amended}
use Rattle.topology.specs.Topology.{item_code, code_among, fault_from, topology_of}

-- ---- small charts
-- an item of this class, with one list
unfoldable pub item : ℕ → ℕ → ℕ → List (List ℕ) → Item
item rcnm rcid kind es = record { rcnm = rcnm; rcid = rcid; version = 1; prim = 3; grup = 2; objl = 1; foid = 0; lists = λ (k : ℕ). cond (eqb k kind) es [] }

-- a connected node with one pair
unfoldable pub node : ℕ → Item
node rcid = item 120 rcid SG2D ((bytes_of 4 0 ++ bytes_of 4 0) ∷ [])

-- "TOPI 1 (begin) .. TOPI 2 (end), the rest 255"
unfoldable pub end : ℕ → ℕ → List ℕ
end topi rcid = 120 ∷ (bytes_of 4 rcid ++ (255 ∷ 255 ∷ topi ∷ 255 ∷ []))

unfoldable pub edge : ℕ → ℕ → ℕ → Item
edge rcid from to = item 130 rcid VRPT (end 1 from ∷ end 2 to ∷ [])

-- an edge of an area, ORNT 1 forward (F) or 2 reversed (R), of the exterior
unfoldable pub along_edge : ℕ → ℕ → List ℕ
along_edge ornt rcid = 130 ∷ (bytes_of 4 rcid ++ (ornt ∷ 1 ∷ 1 ∷ []))

unfoldable pub area : List (List ℕ) → Item
area es = item 100 1 FSPT es

-- "Edges 1: A to B, 2: B to C, 3: A to C": the nodes A, B, C are 1, 2, 3
unfoldable pub triangle : List (List ℕ) → List Item
triangle es = node 1 ∷ node 2 ∷ node 3 ∷ edge 1 1 2 ∷ edge 2 2 3 ∷ edge 3 1 3 ∷ area es ∷ []

-- two edges that end where they begin, at A
unfoldable pub loops : List (List ℕ) → List Item
loops es = node 1 ∷ edge 1 1 1 ∷ edge 2 1 1 ∷ area es ∷ []

-- an isolated node at this X
unfoldable pub isolated : ℕ → List Item
isolated x = item 110 1 SG2D ((bytes_of 4 0 ++ bytes_of 4 x) ∷ []) ∷ []

-- ---- vectors as the held form writes them
-- a vector of this class, with one list
unfoldable pub vector : ℕ → ℕ → List (List ℕ) → Item
vector rcnm kind es = record {
  rcnm = rcnm;
  rcid = 1;
  version = 1;
  prim = 0;
  grup = 0;
  objl = 0;
  foid = 0;
  lists = λ (k : ℕ). cond (eqb k kind) es [];
}

-- "Connected node", "Edge, no coordinates"
unfoldable pub held_node : List Piece
held_node = item_pieces 3 (vector 120 SG2D ((bytes_of 4 0 ++ bytes_of 4 0) ∷ []))

unfoldable pub held_edge : List Piece
held_edge = item_pieces 3 (vector 130 VRPT (end 1 1 ∷ end 2 2 ∷ []))

-- the lengths of a record's fields
unfoldable pub lengths : List (List ℕ) → List ℕ
lengths [] = []
lengths (row ∷ rows) = len row ∷ lengths rows

-- ---- a record of an update that modifies edge 1, which has one list, as the rules of updates take it
-- with this VRPC it brings these in the list of that kind
unfoldable pub modifying : Option Control → ℕ → List (List ℕ) → Amendment
modifying c kind es = record {
  ruin = 3;
  object = record { rcnm = 130; rcid = 1; version = 2; prim = 0; grup = 0; objl = 0; foid = 0; lists = λ (k : ℕ). cond (eqb k kind) es [] };
  first = c;
  second = none;
}

-- its code; where that is 0, the list afterwards
unfoldable pub outcome : ℕ → List (List ℕ) → Amendment → List ℕ
outcome kind held a =
    cond (eqb (amendment_code (vector 130 kind held ∷ []) a) 0) (0 ∷ flatten ((amended a (vector 130 kind held)).lists kind))
    (amendment_code (vector 130 kind held ∷ []) a ∷ [])

-- of a list p, q by a control, p, q, r being 10, 20, 30
unfoldable pub edited_by_control : ℕ → ℕ → ℕ → List (List ℕ) → List ℕ
edited_by_control instruction index count brought =
    outcome VRPT ((10 ∷ []) ∷ (20 ∷ []) ∷ []) (modifying (some (record { instruction = instruction; index = index; count = count })) VRPT brought)

-- of the attribute of label 5, whose value is "A"
unfoldable pub edited_by_label : List ℕ → List ℕ
edited_by_label value = outcome ATTV ((5 ∷ 0 ∷ 65 ∷ 31 ∷ []) ∷ []) (modifying none ATTV ((5 ∷ 0 ∷ (value ++ (31 ∷ []))) ∷ []))

-- ---- the rows
-- what the topology gives, at COMF 10,000,000
unfoldable pub verdict : List Item → ℕ
verdict all = (topology_of 10000000 all).code

-- "1. Connected node: fields 3, 9, 9; leader `00067 D     00046   1204`."  "2. Edge, no coordinates: base 49, length 80."  "4. Area 1F 2F 3R closes; 1F 2F 3F
-- is 19."  "5. A loop edge alone is a ring; two such as exterior are 19."  "6. List p,q: insert r at 3 gives p,q,r; at 4 is 16."  "7. Delete
-- index 2 count 2 of p,q is 16; count 1 leaves p."  "8. Value empty: attribute stays, unknown. 7F: gone."  "9. X = 1,800,000,000 at COMF 10,000,000 passes; one more is 17."
pub bench_sheet : (
    lengths (rows_for 0 held_node)
    ∷ take 24 (record_bytes held_node)
    ∷ (base_for (rows_for 0 held_edge) ∷ size_of held_edge ∷ [])
    ∷ (verdict (triangle (along_edge 1 1 ∷ along_edge 1 2 ∷ along_edge 2 3 ∷ [])) ∷ verdict (triangle (along_edge 1 1 ∷ along_edge 1 2 ∷ along_edge 1 3 ∷ [])) ∷ [])
    ∷ (verdict (loops (along_edge 1 1 ∷ [])) ∷ verdict (loops (along_edge 1 1 ∷ along_edge 1 2 ∷ [])) ∷ [])
    ∷ (verdict (isolated 1800000000) ∷ verdict (isolated 1800000001) ∷ [])
    ∷ edited_by_control 1 3 1 ((30 ∷ []) ∷ [])
    ∷ edited_by_control 1 4 1 ((30 ∷ []) ∷ [])
    ∷ edited_by_control 2 2 2 []
    ∷ edited_by_control 2 2 1 []
    ∷ edited_by_label []
    ∷ edited_by_label (127 ∷ [])
    ∷ [])
    ≡ (3 ∷ 9 ∷ 9 ∷ [])
    ∷ bytes "00067 D     00046   1204"
    ∷ (49 ∷ 80 ∷ [])
    ∷ (0 ∷ 19 ∷ [])
    ∷ (0 ∷ 19 ∷ [])
    ∷ (0 ∷ 17 ∷ [])
    ∷ (0 ∷ 10 ∷ 20 ∷ 30 ∷ [])
    ∷ (16 ∷ [])
    ∷ (16 ∷ [])
    ∷ (0 ∷ 10 ∷ [])
    ∷ (0 ∷ 5 ∷ 0 ∷ 31 ∷ [])
    ∷ (0 ∷ [])
    ∷ []
unfolding item node end edge along_edge area triangle loops isolated vector held_node held_edge lengths verdict
    num_at bytes_of all_of through within is_collection rank_of name_from name_in found_code place_from place_in object_in
    magnitude pair_good coordinates_good isolated_good connected_good end_good add_topi edge_good class_good vector_good is_node point_good one_or_two line_good area_good
    spatial_good spatial_count feature_good shape_good shape_code first_by names_code lnams_code pointer_code
    node_step node_with node_of nodes_of found node_in step_of usage_good along rings_from rings_good ring_code
    item_code code_among fault_from topology_of
    digits_of fewest fewest_from row_of table tag_of as_number bytes tag_bytes body_of rows_for longest farthest row_bytes rows_bytes base_for leader_of head_over head_bytes record_bytes size_of
    is_feature list_piece list_pieces vrid_bytes vector_pieces feature_pieces item_pieces flatten
    modifying outcome edited_by_control edited_by_label gone come allowed edited edited_by label_of is_removal named change finds changes changes_find
    is_attributes is_none coordinates control_of list_allowed list_edited allowed_at lists_allowed lists_edited
    held_by kinds_of identity_same edit_allowed modify_code amend.found_code amendment_code amended
bench_sheet = refl
