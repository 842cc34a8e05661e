-- The edit of the lists of a vector or a feature by what a modify brings. Assumes nothing.
use Rattle.std.specs.Prelude.{ℕ, Bool, true, false, cond, ◌||◌, List, [], ◌∷◌, length, eqb}
use Rattle.std.proofs.Math.Option.{Option, none, some}
use Rattle.entries.specs.Rules.{all_of}
use Rattle.table.specs.Table.{VRPT, SG2D, SG3D, FFPT, FSPT}
use Rattle.attributes.specs.Attributes.{label_of, is_removal}
use Rattle.fieldvalue.specs.Value.{is_attributes}
use Rattle.edits.specs.Control.{Control, allowed, edited_by}
use Rattle.edits.specs.AttributeEdit.{changes, changes_find}

-- what a record of an update brings: the first control (VRPC or FFPC) and the second (SGCC or FSPC), where they stand, and its lists
pub record Edit : Type 0 where
  pub first : Option Control
  pub second : Option Control
  pub lists : ℕ → List (List ℕ)

-- "a list without control is refused"
unfoldable pub list_allowed : Option Control → ℕ → ℕ → Bool
list_allowed none held brought = eqb brought 0
list_allowed (some c) held brought = allowed c held brought

unfoldable pub list_edited : {E : Type 0} → Option Control → List E → List E → List E
list_edited none held brought = held
list_edited (some c) held brought = edited_by c held brought

unfoldable pub is_none : {E : Type 0} → List E → Bool
is_none [] = true
is_none (e ∷ es) = false

-- "Soundings and pairs can't replace or join each other": SGCC means the list that is held, or, where neither is, the one that comes.
-- The other kind has no control, and so can bring nothing
unfoldable pub coordinates : (ℕ → List (List ℕ)) → (ℕ → List (List ℕ)) → ℕ
coordinates held brought = cond (is_none (held SG2D)) (cond (is_none (held SG3D)) (cond (is_none (brought SG3D)) SG2D SG3D) SG3D) SG2D

-- "VRPC, SGCC, FFPC, FSPC may stand once each before the place of their lists": the control of list k
unfoldable pub control_of : Edit → (ℕ → List (List ℕ)) → ℕ → Option Control
control_of u held k =
    cond (eqb k VRPT || eqb k FFPT) u.first (cond (eqb k FSPT || eqb k (coordinates held u.lists)) u.second none)

-- list k of the result, and whether its edit is allowed
unfoldable pub lists_edited : Edit → (ℕ → List (List ℕ)) → ℕ → List (List ℕ)
lists_edited u held k =
    cond (is_attributes k) (changes label_of is_removal (held k) (u.lists k)) (list_edited (control_of u held k) (held k) (u.lists k))

unfoldable pub allowed_at : Edit → (ℕ → List (List ℕ)) → ℕ → Bool
allowed_at u held k =
    cond (is_attributes k) (changes_find label_of is_removal (held k) (u.lists k)) (list_allowed (control_of u held k) (length (held k)) (length (u.lists k)))

-- else "edit rule broken", code 16: in the lists of a vector (`vector_kinds`) or of a feature (`feature_kinds`)
unfoldable pub lists_allowed : List ℕ → Edit → (ℕ → List (List ℕ)) → Bool
lists_allowed kinds u held = all_of (allowed_at u held) kinds
