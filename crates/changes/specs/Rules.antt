-- What an update must keep to, and what becomes of the objects that it names, as propositions: demand 2 speaks of these. Assumes nothing.
use Rattle.std.specs.Prelude.{ℕ, ◌+◌, true, false, List, [], ◌∷◌, ◌≡◌, length}
use Rattle.std.proofs.Math.Option.{none, some}
use Rattle.attributes.specs.Attributes.{label_of, is_removal}
use Rattle.fieldvalue.specs.Value.{is_attributes}
use Rattle.items.specs.Item.{Item, item_name}
use Rattle.held.specs.Chart.{Header, Chart}
use Rattle.edits.specs.Control.{Control, Allowed}
use Rattle.edits.specs.AttributeEdit.{named, change}
use Rattle.edits.specs.Lists.{Edit, control_of}
use Rattle.changes.specs.Change.{Amendment, edit_of, Change}
use Rattle.changes.specs.Follow.{chart_name}
use Rattle.changes.specs.Amend.{held_by, kinds_of}
use Rattle.changes.specs.Updated.{amended}

-- a rule that each of a list keeps
pub data All {E : Type 0} (rule : E → Type 0) : List E → Type 0 where
  all_none : All rule []
  all_more : {e : E} {es : List E} → rule e → All rule es → All rule (e ∷ es)

-- ---- the header
-- not "first 8 of DSNM differ; EDTN differs as a number; UPDN isn't the cell's plus 1; AALL or NALL differs"
pub record Follows (h : Header) (u : Change) : Type 0 where
  pub name : chart_name u.dsid ≡ chart_name h.dsid
  pub edition : u.dsid.edition ≡ h.dsid.edition
  pub number : u.dsid.number ≡ h.dsid.number + 1
  pub attributes : u.aall ≡ h.aall
  pub national : u.nall ≡ h.nall

-- ---- one record
-- "Insert: RVER 1, no control field, no value 7F", and not "of a held name"
pub record InsertKept (held : List Item) (a : Amendment) : Type 0 where
  pub instruction : a.ruin ≡ 1
  pub free : held_by held (item_name a.object) ≡ none
  pub version : a.object.version ≡ 1
  pub uncontrolled : (a.first ≡ none) × (a.second ≡ none)
  pub plain : All (λ k. is_attributes k ≡ true → All (λ e. is_removal e ≡ false) (a.object.lists k)) (kinds_of a.object.rcnm)

-- not "FOID, PRIM, GRUP or OBJL not the held"; a vector has none of them
pub record SameIdentity (t held : Item) : Type 0 where
  pub foid : t.foid ≡ held.foid
  pub prim : t.prim ≡ held.prim
  pub grup : t.grup ≡ held.grup
  pub objl : t.objl ≡ held.objl

-- "Modify and delete: RVER is the held plus 1", t being what is held under the name
pub record Targets (held : List Item) (a : Amendment) (t : Item) : Type 0 where
  pub found : held_by held (item_name a.object) ≡ some t
  pub version : a.object.version ≡ t.version + 1
  pub identity : SameIdentity a.object t

-- "Delete: identifier fields only"
pub record DeleteKept (held : List Item) (a : Amendment) (t : Item) : Type 0 where
  pub instruction : a.ruin ≡ 2
  pub target : Targets held a t
  pub uncontrolled : (a.first ≡ none) × (a.second ≡ none)
  pub empty : All (λ k. a.object.lists k ≡ []) (kinds_of t.rcnm)

-- "7F removes it and must find it": in the list as those before it leave it
pub data Finds : List (List ℕ) → List (List ℕ) → Type 0 where
  finds_none : {held : List (List ℕ)} → Finds held []
  finds_more : {held : List (List ℕ)} {e : List ℕ} {more : List (List ℕ)} → (is_removal e ≡ true → named label_of (label_of e) held ≡ true)
      → Finds (change label_of is_removal e held) more → Finds held (e ∷ more)

-- a list of kind k in a modify: attributes; entries with a control, "A control .. acts on its list"; "a list without control is refused"
pub data ListKept (u : Edit) (held : ℕ → List (List ℕ)) (k : ℕ) : Type 0 where
  by_label : is_attributes k ≡ true → Finds (held k) (u.lists k) → ListKept u held k
  by_control : {c : Control} → is_attributes k ≡ false → control_of u held k ≡ some c → Allowed c (length (held k)) (length (u.lists k)) → ListKept u held k
  by_none : is_attributes k ≡ false → control_of u held k ≡ none → u.lists k ≡ [] → ListKept u held k

pub record ModifyKept (held : List Item) (a : Amendment) (t : Item) : Type 0 where
  pub instruction : a.ruin ≡ 3
  pub target : Targets held a t
  pub lists : All (ListKept (edit_of a) t.lists) (kinds_of t.rcnm)

pub data Keeps (held : List Item) (a : Amendment) : Type 0 where
  keeps_insert : InsertKept held a → Keeps held a
  keeps_delete : {t : Item} → DeleteKept held a t → Keeps held a
  keeps_modify : {t : Item} → ModifyKept held a t → Keeps held a

-- ---- the update whole: it has none of the codes 9 to 16
pub record Acceptable (c : Chart) (u : Change) : Type 0 where
  pub header : Follows c.header u
  pub records : All (Keeps c.items) u.amendments

-- ---- what becomes of the object that a record names: before the update and after it
pub data Done (before after : List Item) (a : Amendment) : Type 0 where
  inserted : a.ruin ≡ 1 → held_by after (item_name a.object) ≡ some a.object → Done before after a
  deleted : a.ruin ≡ 2 → held_by after (item_name a.object) ≡ none → Done before after a
  modified : {t : Item} → a.ruin ≡ 3 → held_by before (item_name a.object) ≡ some t → held_by after (item_name a.object) ≡ some (amended a t)
      → Done before after a
