-- A record of the cell and a record of the update that names it, as the code takes them, and the areas that it is lent. Nothing here need be
-- believed. Assumes nothing.
use Rattle.std.specs.Prelude as code
use Rattle.std.specs.Prelude.{ℕ, ◌-◌, ◌≤◌, ◌<◌, Bool, true, cond, ◌≡◌, length, get_or, take, drop, IfSome}
use mathlib.Core.List.{List, flatten}
use Rattle.std.proofs.Math.Option.{Option, none}
use Rattle.table.specs.Table.{row_of}
use Rattle.attributes.specs.Attributes.{label_of, is_removal}
use Rattle.layout.specs.Layout.{shape_of}
use Rattle.fieldvalue.specs.Value.{is_attributes}
use Rattle.items.specs.Premises.{LaidOut}
use Rattle.items.specs.Lists.{list_at, entries_at}
use Rattle.items.specs.Item.{item_at}
use Rattle.edits.specs.Control as edits
use Rattle.edits.specs.OnePass.{apart, one_pass, findable}
use Rattle.edits.specs.Lists.{list_allowed, list_edited, control_of, lists_edited}
use Rattle.splice.specs.declared.control.Control.{Control}
use Rattle.amend.specs.declared.lists.Split.{Split}
use Rattle.splice.specs.Given.{option_of, Given}
use Rattle.splice.specs.Put.{Two}
use Rattle.labelled.specs.Table.{Labelled, Blank}
use Rattle.changes.specs.Change.{amendment_at, edit_of}

-- both records are laid out, no attribute comes twice in a list of either, and no list is longer than a record
pub record Sides (cell : List ℕ) (at : ℕ) (update : List ℕ) (by : ℕ) : Type 0 where
  pub old : LaidOut cell at
  pub new : LaidOut update by
  pub old_apart : (k : ℕ) → is_attributes k ≡ true → apart label_of (entries_at cell at k) ≡ true
  pub new_apart : (k : ℕ) → is_attributes k ≡ true → apart label_of (entries_at update by k) ≡ true
  pub old_few : (k : ℕ) → length (list_at cell at k) ≤ 99999
  pub new_few : (k : ℕ) → length (list_at update by k) ≤ 99999

-- the bytes of list k of the result
abbrev pub list_bytes : List ℕ → ℕ → List ℕ → ℕ → ℕ → List ℕ
list_bytes cell at update by k = flatten (lists_edited (edit_of (amendment_at update by)) (item_at cell at).lists k)

-- k is a list, and c its control
pub record Picked (cell : List ℕ) (at : ℕ) (update : List ℕ) (by k : ℕ) (c : code.Option Control) : Type 0 where
  pub list : (row_of k).list ≡ true
  pub small : IfSome c Given
  pub is : option_of c ≡ control_of (edit_of (amendment_at update by)) (item_at cell at).lists k

-- the area where two lists stand side by side, and the table of labels, which is zero
pub record Areas (join : List ℕ) (table : List ℕ) : Type 0 where
  pub wide : 199998 ≤ length join
  pub zero : Blank table

-- how many bytes the lists of four kinds have
pub record Totaled (bytes : ℕ → List ℕ) (kinds totals : List ℕ) : Type 0 where
  pub is : (i : ℕ) → i < 4 → get_or totals i 0 ≡ length (bytes (get_or kinds i 0))
  pub four : length totals ≡ 4

-- of two lists of bytes side by side at the front of an area: what stands first, what behind it
abbrev pub front_of : List ℕ → Split → List ℕ
front_of area s = take (s.held - 0) (drop 0 area)

abbrev pub back_of : List ℕ → Split → List ℕ
back_of area s = take (s.all - s.held) (drop s.held area)

-- two lists of bytes at the front of an area, one behind the other
pub record SideBySide (old new area : List ℕ) (s : Split) : Type 0 where
  pub first : front_of area s ≡ old
  pub second : back_of area s ≡ new
  pub order : s.held ≤ s.all
  pub within : s.all ≤ length area

-- ---- the edit of one list by its kind: attributes by their labels, all others by a control
unfoldable pub may_put : ℕ → Option edits.Control → List (List ℕ) → List (List ℕ) → Bool
may_put k c held brought = cond (is_attributes k) (findable label_of is_removal held brought) (list_allowed c (length held) (length brought))

unfoldable pub put_of : ℕ → Option edits.Control → List (List ℕ) → List (List ℕ) → List (List ℕ)
put_of k c held brought = cond (is_attributes k) (one_pass label_of is_removal held brought) (list_edited c held brought)

-- two lists of bytes that can be edited so
pub record Ready (k : ℕ) (c : code.Option Control) (old new : List ℕ) : Type 0 where
  pub small : IfSome c Given
  pub two : Two (shape_of k) old new
  pub labels : is_attributes k ≡ true → Labelled old new

-- where r is true, no control acts on list k, and nothing comes to it
pub record StaysTold (update : List ℕ) (by k : ℕ) (c : code.Option Control) (r : Bool) : Type 0 where
  pub free : r ≡ true → option_of c ≡ none
  pub bare : r ≡ true → length (list_at update by k) ≡ 0
