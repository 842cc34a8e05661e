-- Rows 6, 7 and 8 of the bench sheet as its table takes them, and other edges of the rules, computed. Assumes nothing.
use Rattle.std.specs.Prelude.{ℕ, Bool, true, false, cond, ◌≡◌, refl, length, eqb}
use mathlib.Core.List.{List, [], ◌∷◌, flatten}
use Rattle.std.proofs.Math.Option.{Option, none, some}
use Rattle.octets.specs.Number.{num_at}
use Rattle.entries.specs.Rules.{all_of}
use Rattle.table.specs.Table.{ATTV, SG2D, SG3D}
use Rattle.attributes.specs.Attributes.{label_of, is_removal}
use Rattle.fieldvalue.specs.Value.{is_attributes}
use Rattle.itemfields.specs.Fields.{vector_kinds}
use Rattle.edits.specs.Control.{Control, gone, come, allowed, edited, edited_by}
use Rattle.edits.specs.AttributeEdit.{named, change, finds, changes, changes_find}
use Rattle.edits.specs.OnePass.{instead, worked, fresh, one_pass}
use Rattle.edits.specs.Lists.{Edit, is_none, coordinates, control_of, list_allowed, list_edited, allowed_at, lists_allowed, lists_edited}

-- code 0 and the list, or code 16
unfoldable pub edited_by_control : ℕ → ℕ → ℕ → List ℕ → List ℕ → List ℕ
edited_by_control instruction index count held brought =
    let c : Control = record { instruction = instruction; index = index; count = count } in
    cond (allowed c (length held) (length brought)) (0 ∷ edited_by c held brought) (16 ∷ [])

-- a vector that has these entries in one list
unfoldable pub one : ℕ → List (List ℕ) → ℕ → List (List ℕ)
one kind es k = cond (eqb k kind) es []

-- an update that brings these in one list, with this SGCC
unfoldable pub bringing : Option Control → ℕ → List (List ℕ) → Edit
bringing c kind es = record { first = none; second = c; lists = one kind es }

-- the same of a vector's attributes
unfoldable pub edited_by_label : List (List ℕ) → List (List ℕ) → List ℕ
edited_by_label held brought =
    let u = bringing none ATTV brought in
    cond (lists_allowed vector_kinds u (one ATTV held)) (0 ∷ flatten (lists_edited u (one ATTV held) ATTV)) (16 ∷ [])

-- "6. List p,q: insert r at 3 gives p,q,r; at 4 is 16."  "7. Delete index 2 count 2 of p,q is 16; count 1 leaves p."  "8. Value empty:
-- attribute stays, unknown. 7F: gone.", p, q, r being 10, 20, 30, and the attribute of label 5: what is computed for them in the bench sheet
unfoldable pub edit_rows : List (List ℕ)
edit_rows =
    edited_by_control 1 3 1 (10 ∷ 20 ∷ []) (30 ∷ [])
    ∷ edited_by_control 1 4 1 (10 ∷ 20 ∷ []) (30 ∷ [])
    ∷ edited_by_control 2 2 2 (10 ∷ 20 ∷ []) []
    ∷ edited_by_control 2 2 1 (10 ∷ 20 ∷ []) []
    ∷ edited_by_label ((5 ∷ 0 ∷ 65 ∷ 31 ∷ []) ∷ []) ((5 ∷ 0 ∷ 31 ∷ []) ∷ [])
    ∷ edited_by_label ((5 ∷ 0 ∷ 65 ∷ 31 ∷ []) ∷ []) ((5 ∷ 0 ∷ 127 ∷ 31 ∷ []) ∷ [])
    ∷ []

-- an insert at 1 makes an absent list; a modify; one that brings too few, a delete that brings one; instructions 0 and 4, index 0, count 0;
-- index + n - 1 is a whole number, that no width cuts
edges : (
    edited_by_control 1 1 1 [] (30 ∷ [])
    ∷ edited_by_control 3 2 1 (10 ∷ 20 ∷ []) (30 ∷ [])
    ∷ edited_by_control 3 1 2 (10 ∷ 20 ∷ []) (30 ∷ [])
    ∷ edited_by_control 2 1 1 (10 ∷ 20 ∷ []) (30 ∷ [])
    ∷ edited_by_control 0 1 1 (10 ∷ 20 ∷ []) (30 ∷ [])
    ∷ edited_by_control 4 1 1 (10 ∷ 20 ∷ []) (30 ∷ [])
    ∷ edited_by_control 2 0 1 (10 ∷ 20 ∷ []) []
    ∷ edited_by_control 2 1 0 (10 ∷ 20 ∷ []) []
    ∷ edited_by_control 2 2 65535 (10 ∷ 20 ∷ []) []
    ∷ [])
    ≡ (0 ∷ 30 ∷ [])
    ∷ (0 ∷ 10 ∷ 30 ∷ [])
    ∷ (16 ∷ [])
    ∷ (16 ∷ [])
    ∷ (16 ∷ [])
    ∷ (16 ∷ [])
    ∷ (16 ∷ [])
    ∷ (16 ∷ [])
    ∷ (16 ∷ [])
    ∷ []
unfolding edited_by_control gone come allowed edited edited_by
edges = refl

-- ---- attributes: a label and a value, the value 127 a removal
unfoldable valued : ℕ → ℕ → List ℕ
valued label value = label ∷ 0 ∷ value ∷ 31 ∷ []

unfoldable three : List (List ℕ)
three = valued 5 65 ∷ valued 6 66 ∷ valued 7 67 ∷ []

-- labels 9 and 8 are new, 7 is replaced, 5 goes
unfoldable four : List (List ℕ)
four = valued 9 68 ∷ valued 7 69 ∷ valued 8 70 ∷ valued 5 127 ∷ []

in_place : (changes label_of is_removal three four ≡ valued 6 66 ∷ valued 7 69 ∷ valued 9 68 ∷ valued 8 70 ∷ [])
    × (one_pass label_of is_removal three four ≡ changes label_of is_removal three four)
unfolding valued three four num_at label_of is_removal named change changes instead worked fresh one_pass
in_place = (refl, refl)

-- "7F removes it and must find it"
not_found : edited_by_label three (valued 8 127 ∷ []) ≡ 16 ∷ []
unfolding one bringing edited_by_label valued three num_at label_of is_removal named change finds changes_find
    is_attributes all_of is_none coordinates control_of list_allowed allowed_at lists_allowed
not_found = refl

-- ---- coordinates
unfoldable control : ℕ → ℕ → ℕ → Option Control
control instruction index count = some (record { instruction = instruction; index = index; count = count })

unfoldable may : Option Control → ℕ → List (List ℕ) → ℕ → List (List ℕ) → Bool
may c kind es held_kind held = lists_allowed vector_kinds (bringing c kind es) (one held_kind held)

-- a pair joins pairs; a sounding can't join pairs, nor take the place of all; where none is held, either may come; without control none may
kinds : (may (control 1 2 1) SG2D ((2 ∷ []) ∷ []) SG2D ((1 ∷ []) ∷ []) ≡ true) × (may (control 1 2 1) SG3D ((2 ∷ []) ∷ []) SG2D ((1 ∷ []) ∷ []) ≡ false)
    × (may (control 3 1 1) SG3D ((2 ∷ []) ∷ []) SG2D ((1 ∷ []) ∷ []) ≡ false) × (may (control 3 1 1) SG2D ((2 ∷ []) ∷ []) SG3D ((1 ∷ []) ∷ []) ≡ false)
    × (may (control 1 1 1) SG3D ((2 ∷ []) ∷ []) SG2D [] ≡ true) × (may (control 1 1 1) SG2D ((2 ∷ []) ∷ []) SG3D [] ≡ true)
    × (may none SG2D ((2 ∷ []) ∷ []) SG2D [] ≡ false)
unfolding one bringing control may gone come allowed is_none coordinates control_of list_allowed allowed_at lists_allowed all_of is_attributes finds changes_find
kinds = (refl, refl, refl, refl, refl, refl, refl)

-- a delete of the soundings that are held leaves none
emptied : lists_edited (bringing (control 2 1 1) SG3D []) (one SG3D ((1 ∷ []) ∷ [])) SG3D ≡ []
unfolding one bringing control gone edited edited_by is_none coordinates control_of list_edited is_attributes lists_edited
emptied = refl
