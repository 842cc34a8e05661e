-- A small chart and what updates make of it, computed; and each code of the rules once. Assumes nothing.
use Rattle.std.specs.Prelude.{ℕ, cond, List, [], ◌∷◌, ◌++◌, ◌≡◌, refl, eqb}
use Rattle.std.proofs.Math.Option.{none, some}
use Rattle.octets.specs.Number.{num_at}
use Rattle.fieldparts.specs.Same.{same_list}
use Rattle.entries.specs.Rules.{all_of}
use Rattle.table.specs.Table.{SG2D, ATTF, FSPT}
use Rattle.attributes.specs.Attributes.{label_of, is_removal}
use Rattle.fieldvalue.specs.Value.{is_attributes}
use Rattle.items.specs.Identity.{rank_of, name_from}
use Rattle.items.specs.Item.{is_feature, Item}
use Rattle.header.specs.Dsid.{Dsid, dsid, revised}
use Rattle.held.specs.Chart.{Chart}
use Rattle.edits.specs.Control.{gone, come, allowed, edited, edited_by}
use Rattle.edits.specs.AttributeEdit.{named, change, finds, changes, changes_find}
use Rattle.edits.specs.Lists.{is_none, coordinates, control_of, list_allowed, list_edited, allowed_at, lists_allowed, lists_edited}
use Rattle.edits.specs.InsertDelete.{is_absent, no_control, plain_at, insert_allowed, delete_allowed}
use Rattle.merge.specs.Update.{placed, without, changed, obeyed, result}
use Rattle.changes.specs.Change.{Amendment, Change}
use Rattle.changes.specs.Follow.{chart_name, follow_code}
use Rattle.changes.specs.Amend.{held_by, kinds_of, insert_code, identity_same, edit_allowed, modify_code, found_code, amendment_code, amendments_fault, change_fault}
use Rattle.changes.specs.Updated.{updated_header, amended, updated}
use Rattle.answers.specs.First.{first_by}
use Rattle.answers.specs.declared.refusal.Refusal.{Refusal}

-- ---- a chart: two isolated nodes, and a feature with two attributes at node 1
unfoldable one : ℕ → List (List ℕ) → ℕ → List (List ℕ)
one a xs k = cond (eqb k a) xs []

unfoldable two : ℕ → List (List ℕ) → ℕ → List (List ℕ) → ℕ → List (List ℕ)
two a xs b ys k = cond (eqb k a) xs (one b ys k)

-- a label and a value of one byte, 127 being a removal
unfoldable valued : ℕ → ℕ → List ℕ
valued label value = label ∷ 0 ∷ value ∷ 31 ∷ []

-- a pair is written as one number here
unfoldable node : ℕ → ℕ → List (List ℕ) → Item
node id version pairs = record { rcnm = 110; rcid = id; version = version; prim = 0; grup = 0; objl = 0; foid = 0; lists = one SG2D pairs }

unfoldable light : ℕ → ℕ → ℕ → List (List ℕ) → List (List ℕ) → Item
light id version objl values places = record {
  rcnm = 100;
  rcid = id;
  version = version;
  prim = 1;
  grup = 2;
  objl = objl;
  foid = 7;
  lists = two ATTF values FSPT places;
}

-- a DSID of this chart name, edition and UPDN
unfoldable header : ℕ → ℕ → ℕ → Dsid
header name edition number =
    dsid (10 ∷ 1 ∷ 0 ∷ 0 ∷ 0 ∷ 1 ∷ 5 ∷ 71 ∷ 66 ∷ 53 ∷ 88 ∷ 48 ∷ 48 ∷ 48 ∷ name ∷ []) edition number [] (number ∷ []) []

unfoldable small : Chart
small = record {
  header = record { dsid = header 49 2 3; aall = 0; nall = 1; dspm = [] };
  items = node 1 1 ((11 ∷ []) ∷ []) ∷ node 2 4 ((22 ∷ []) ∷ []) ∷ light 1 1 75 (valued 5 65 ∷ valued 6 66 ∷ []) ((1 ∷ []) ∷ []) ∷ [];
}

-- ---- updates of it: records in any order, without controls, or with one on the second list
unfoldable plain : ℕ → Item → Amendment
plain ruin t = record { ruin = ruin; object = t; first = none; second = none }

unfoldable controlled : ℕ → ℕ → ℕ → Item → Amendment
controlled instruction index count t = record { ruin = 3; object = t; first = none; second = some (record { instruction = instruction; index = index; count = count }) }

unfoldable update : List Amendment → Change
update us = record { dsid = header 49 2 4; aall = 0; nall = 1; amendments = us }

-- what is seen of an object: class, RCID, RVER, and its lists of attributes, of pointers and of pairs
unfoldable seen : Item → List (List ℕ)
seen t = (t.rcnm ∷ t.rcid ∷ t.version ∷ []) ∷ (t.lists ATTF ++ (t.lists FSPT ++ t.lists SG2D))

unfoldable seen_all : List Item → List (List (List ℕ))
seen_all [] = []
seen_all (t ∷ ts) = seen t ∷ seen_all ts

-- the code and the record
unfoldable told : Refusal → List ℕ
told r = r.code ∷ r.index ∷ []

-- the light moves from node 1 to node 3: its value of label 6 goes, that of label 5 is replaced, one of label 8 is appended, and its first pointer
-- is modified; node 1 is deleted; node 3 is inserted
unfoldable moved : Change
moved =
    update
    (controlled 3 1 1 (light 1 2 75 (valued 6 127 ∷ valued 8 68 ∷ valued 5 69 ∷ []) ((3 ∷ []) ∷ []))
    ∷ plain 2 (node 1 2 [])
    ∷ plain 1 (node 3 1 ((33 ∷ []) ∷ []))
    ∷ [])

all_three : ((change_fault small moved).code ≡ 0)
    × (seen_all (updated small moved).items
    ≡ ((110 ∷ 2 ∷ 4 ∷ []) ∷ (22 ∷ []) ∷ [])
    ∷ ((110 ∷ 3 ∷ 1 ∷ []) ∷ (33 ∷ []) ∷ [])
    ∷ ((100 ∷ 1 ∷ 2 ∷ []) ∷ valued 5 69 ∷ valued 8 68 ∷ (3 ∷ []) ∷ [])
    ∷ [])
    × ((updated small moved).header ≡ record { dsid = dsid (header 49 2 3).named 2 4 (4 ∷ []) (4 ∷ []) []; aall = 0; nall = 1; dspm = [] })
unfolding one two valued node light header small plain controlled update seen seen_all moved num_at same_list all_of label_of is_removal is_attributes rank_of name_from is_feature
    gone come allowed edited edited_by named change finds changes changes_find is_none coordinates control_of list_allowed list_edited allowed_at lists_allowed lists_edited
    is_absent no_control plain_at insert_allowed delete_allowed placed without changed obeyed result chart_name follow_code held_by kinds_of insert_code identity_same edit_allowed
    modify_code found_code amendment_code amendments_fault change_fault revised updated_header amended updated first_by
all_three = (refl, refl, refl)

-- ---- the codes of the header: another chart, another edition, "A cell at 3 given update 3 or 5: 11", another level
unfoldable given : Dsid → ℕ → List ℕ
given d nall = told (change_fault small (record { dsid = d; aall = 0; nall = nall; amendments = [] }))

of_header : (given (header 50 2 4) 1 ∷ given (header 49 1 4) 1 ∷ given (header 49 2 3) 1 ∷ given (header 49 2 5) 1 ∷ given (header 49 2 4) 0 ∷ given (header 49 2 4) 1 ∷ [])
    ≡ (9 ∷ 1 ∷ []) ∷ (10 ∷ 1 ∷ []) ∷ (11 ∷ 1 ∷ []) ∷ (11 ∷ 1 ∷ []) ∷ (12 ∷ 1 ∷ []) ∷ (0 ∷ 0 ∷ []) ∷ []
unfolding one two valued node light header small told given same_list chart_name follow_code amendments_fault change_fault first_by
of_header = refl

-- ---- the codes of records, behind one that is allowed: the update's second record is record 3 of its file
unfoldable second : Amendment → List ℕ
second a = told (change_fault small (update (plain 1 (node 9 1 ((99 ∷ []) ∷ [])) ∷ a ∷ [])))

-- an insert of a held name, a modify of none
targets : (second (plain 1 (node 2 1 ((22 ∷ []) ∷ []))) ∷ second (plain 3 (node 3 1 [])) ∷ []) ≡ (13 ∷ 3 ∷ []) ∷ (13 ∷ 3 ∷ []) ∷ []
unfolding one two valued node light header small plain update told second num_at same_list all_of is_attributes rank_of name_from is_feature is_absent no_control plain_at insert_allowed
    chart_name follow_code held_by kinds_of insert_code found_code amendment_code amendments_fault change_fault first_by
targets = refl

-- an insert of version 2; a delete of version 4 where 4 is held; a modify of another class; one that brings a pair without control; one that removes a
-- label that isn't held; a delete that brings a list; an insert that brings a removal
edits : (second (plain 1 (node 3 2 ((33 ∷ []) ∷ [])))
    ∷ second (plain 2 (node 2 4 []))
    ∷ second (plain 3 (light 1 2 76 [] []))
    ∷ second (plain 3 (node 2 5 ((23 ∷ []) ∷ [])))
    ∷ second (plain 3 (light 1 2 75 (valued 8 127 ∷ []) []))
    ∷ second (plain 2 (node 2 5 ((22 ∷ []) ∷ [])))
    ∷ second (plain 1 (light 2 1 75 (valued 5 127 ∷ []) ((1 ∷ []) ∷ [])))
    ∷ [])
    ≡ (14 ∷ 3 ∷ []) ∷ (14 ∷ 3 ∷ []) ∷ (15 ∷ 3 ∷ []) ∷ (16 ∷ 3 ∷ []) ∷ (16 ∷ 3 ∷ []) ∷ (16 ∷ 3 ∷ []) ∷ (16 ∷ 3 ∷ []) ∷ []
unfolding one two valued node light header small plain update told second num_at same_list all_of label_of is_removal is_attributes rank_of name_from is_feature
    gone come allowed named change finds changes_find is_none coordinates control_of list_allowed allowed_at lists_allowed is_absent no_control plain_at insert_allowed delete_allowed
    chart_name follow_code held_by kinds_of insert_code identity_same edit_allowed modify_code found_code amendment_code amendments_fault change_fault first_by
edits = refl
