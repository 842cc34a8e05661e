-- The rules of an update's records: codes 13 to 16, each record against the chart that the update finds. Assumes nothing.
use Rattle.std.specs.Prelude.{ℕ, ◌+◌, Bool, cond, ◌&&◌, List, [], ◌∷◌, eqb}
use Rattle.std.proofs.Math.Option.{Option, none, some}
use Rattle.iso8211.specs.File.{record_at}
use Rattle.items.specs.Item.{is_feature, Item, item_name}
use Rattle.itemfields.specs.Fields.{vector_kinds, feature_kinds}
use Rattle.held.specs.Chart.{Chart}
use Rattle.edits.specs.Lists.{lists_allowed}
use Rattle.edits.specs.InsertDelete.{insert_allowed, delete_allowed}
use Rattle.changes.specs.Change.{Amendment, edit_of, Change}
use Rattle.changes.specs.Follow.{follow_code}
use Rattle.answers.specs.Codes.{TARGET, VERSION, IDENTITY, EDIT}
use Rattle.answers.specs.Answer.{refusal, fine}
use Rattle.answers.specs.First.{first_refusal}
use Rattle.answers.specs.declared.refusal.Refusal.{Refusal}

-- what is held under this name
unfoldable pub held_by : List Item → ℕ → Option Item
held_by [] name = none
held_by (t ∷ ts) name = cond (eqb (item_name t) name) (some t) (held_by ts name)

-- the lists of a vector or of a feature
unfoldable pub kinds_of : ℕ → List ℕ
kinds_of rcnm = cond (is_feature rcnm) feature_kinds vector_kinds

-- "Insert: RVER 1, no control field, no value 7F": 14, then 16
unfoldable pub insert_code : Amendment → ℕ
insert_code a = cond (eqb a.object.version 1) (cond (insert_allowed (kinds_of a.object.rcnm) (edit_of a)) 0 EDIT) VERSION

-- "15 Identity: FOID, PRIM, GRUP or OBJL not the held"; a vector has none of them
unfoldable pub identity_same : Item → Item → Bool
identity_same t held = eqb t.foid held.foid && (eqb t.prim held.prim && (eqb t.grup held.grup && eqb t.objl held.objl))

-- "Delete: identifier fields only"; a modify's lists and controls keep the rules of edits
unfoldable pub edit_allowed : Amendment → Item → Bool
edit_allowed a held =
    cond (eqb a.ruin 2) (delete_allowed (kinds_of held.rcnm) (edit_of a)) (lists_allowed (kinds_of held.rcnm) (edit_of a) held.lists)

-- "Modify and delete: RVER is the held plus 1; at 65,535 none fits": 14, then 15, then 16
unfoldable pub modify_code : Amendment → Item → ℕ
modify_code a held =
    cond (eqb a.object.version (held.version + 1)) (cond (identity_same a.object held) (cond (edit_allowed a held) 0 EDIT) IDENTITY) VERSION

-- "13 Target: insert of a held name or modify/delete of none"
unfoldable pub found_code : Amendment → Option Item → ℕ
found_code a none = cond (eqb a.ruin 1) (insert_code a) TARGET
found_code a (some held) = cond (eqb a.ruin 1) TARGET (modify_code a held)

unfoldable pub amendment_code : List Item → Amendment → ℕ
amendment_code held a = found_code a (held_by held (item_name a.object))

-- "13 to 16 record by record in the update's order": the first of these records that has a code, the first being record k
unfoldable pub amendments_fault : List Item → ℕ → List Amendment → Refusal
amendments_fault held k [] = fine
amendments_fault held k (a ∷ more) = first_refusal (refusal (amendment_code held a) k 0) (amendments_fault held (k + 1) more)

-- "9 to 12; 13 to 16": the records begin with record 2
unfoldable pub change_fault : Chart → Change → Refusal
change_fault c u = first_refusal (refusal (follow_code c.header u) 1 0) (amendments_fault c.items 2 u.amendments)

-- such a refusal with the byte of the update's file at which its record starts
unfoldable pub placed_in : List ℕ → Refusal → Refusal
placed_in s r = cond (eqb r.code 0) fine (refusal r.code r.index (record_at s r.index))
