-- The values of a list of attributes (ATTV, ATTF, NATF) and of a list of FFPT, on the bytes of one field. Assumes nothing.
use Rattle.std.specs.Prelude.{ℕ, ◌+◌, ◌-◌, Bool, false, cond, ◌&&◌, ◌||◌, List, [], ◌∷◌, length, take, drop, eqb, leb}
use Rattle.octets.specs.Lists.{is_in}
use Rattle.octets.specs.Number.{byte_at, num_at}
use Rattle.entries.specs.Entries.{entries_of}
use Rattle.entries.specs.Rules.{through}
use Rattle.entries.specs.declared.Shape.{Shape}
use Rattle.headvalues.specs.Text.{text_good}
use Rattle.table.specs.Offsets.{ATVL, FFPT_RIND, FFPT_COMT}

-- an attribute: ATTL of two bytes, then ATVL, ended by 1F
abbrev pub attribute : Shape
attribute = record { fixed = ATVL; unit = 1 }

unfoldable pub label_of : List ℕ → ℕ
label_of e = num_at e 0 2

-- the bytes of its value, without the 1F
unfoldable pub value_of : List ℕ → List ℕ
value_of e = take (length e - 3) (drop ATVL e)

-- "an update value may be 7F alone"
unfoldable pub is_removal : List ℕ → Bool
is_removal e = eqb (length e) 4 && eqb (byte_at e ATVL) 127

-- "Text bytes 20-7E hex; at level 1 in ATTF or NATF also A0-FF; an update value may be 7F alone"
unfoldable pub value_good : Bool → Bool → List ℕ → Bool
value_good update high e = (update && is_removal e) || text_good high (value_of e)

-- "No ATTL twice in one ATTV, ATTF or NATF list": entries from index `at` of the field on, `seen` the labels met before in the list. 0, or
-- 1 and the place of the first wrong subfield: an ATTL met before, or a value
unfoldable pub attributes_from : Bool → Bool → List ℕ → ℕ → List (List ℕ) → ℕ
attributes_from update high seen at [] = 0
attributes_from update high seen at (e ∷ es) =
    cond (is_in (label_of e) seen) (at + 1)
    (cond (value_good update high e) (attributes_from update high (label_of e ∷ seen) (at + length e) es) (at + 3))

unfoldable pub attributes_fault : Bool → Bool → List ℕ → List ℕ → ℕ
attributes_fault update high seen c = attributes_from update high seen 0 (entries_of attribute c)

-- the labels met when the field is passed
unfoldable pub met_label : List ℕ → List ℕ → List ℕ
met_label seen e = label_of e ∷ seen

unfoldable pub met_after : List ℕ → List ℕ → List ℕ
met_after seen c = through met_label seen (entries_of attribute c)

-- ---- FFPT: LNAM of eight bytes, RIND, then COMT, ended by 1F
abbrev pub pointer : Shape
pointer = record { fixed = FFPT_COMT; unit = 1 }

-- "RIND 2 or 3"
unfoldable pub rind_good : List ℕ → Bool
rind_good e = leb 2 (byte_at e FFPT_RIND) && leb (byte_at e FFPT_RIND) 3

unfoldable pub comment_of : List ℕ → List ℕ
comment_of e = take (length e - 10) (drop FFPT_COMT e)

-- entries from index `at` of the field on: 0, or 1 and the place of the first wrong subfield
unfoldable pub ffpt_from : ℕ → List (List ℕ) → ℕ
ffpt_from at [] = 0
ffpt_from at (e ∷ es) = cond (rind_good e) (cond (text_good false (comment_of e)) (ffpt_from (at + length e) es) (at + 10)) (at + 9)

unfoldable pub ffpt_fault : List ℕ → ℕ
ffpt_fault c = ffpt_from 0 (entries_of pointer c)
