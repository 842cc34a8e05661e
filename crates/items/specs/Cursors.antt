-- A place in a list that may stand in several fields. It serves the proofs, and nothing here need be believed. Assumes nothing.
use Rattle.std.specs.Prelude.{ℕ, ◌-◌, ◌≤◌, ◌<◌, List, [], ◌∷◌, ◌++◌, ◌≡◌, length, take, drop, Option, Some, None}
use Rattle.iso8211.specs.Field.{count_at}
use Rattle.entries.specs.Entries.{entries_of}
use Rattle.entries.specs.Premises.{Whole}
use Rattle.layout.specs.Layout.{shape_of}
use Rattle.items.specs.Lists.{join_from}
use Rattle.items.specs.declared.cursor.Cursor.{Cursor}

-- the entries that are still to come: those of the bytes from `from` up to `to` of the file, then those of the fields from `field` on
unfoldable pub left : List ℕ → ℕ → ℕ → Cursor → List (List ℕ)
left s at k c =
    entries_of (shape_of k) (take (c.to - c.from) (drop c.from s))
    ++ entries_of (shape_of k) (join_from (count_at s at - c.field) s at k c.field)

-- a cursor of the record at `at`: its bytes lie in the file and hold whole entries, its field is one of the record's or the end
pub record CursorIn (s : List ℕ) (at k : ℕ) (c : Cursor) : Type 0 where
  pub order : c.from ≤ c.to
  pub within : c.to ≤ length s
  pub below : c.field ≤ count_at s at
  pub wholly : Whole (shape_of k) (take (c.to - c.from) (drop c.from s))

-- r stands where c stands, with bytes of the list before it unless none are left
pub record Settled (s : List ℕ) (at k : ℕ) (c r : Cursor) : Type 0 where
  pub inside : CursorIn s at k r
  pub same : left s at k c ≡ left s at k r
  pub last : r.to ≤ r.from → left s at k r ≡ []

-- r is the next entry, at these bytes of the file, with the cursor behind it; or there is none
unfoldable pub Stepped : List ℕ → ℕ → ℕ → Cursor → Option (ℕ × ℕ × Cursor) → Type 0
Stepped s at k c (Some (from, to, next)) =
    (left s at k c ≡ take (to - from) (drop from s) ∷ left s at k next)
    × (from < to) × (to ≤ length s) × CursorIn s at k next
Stepped s at k c None = left s at k c ≡ []

-- r is the next entries, those that these bytes of the file hold, with the cursor behind them; or there are none
unfoldable pub PartStepped : List ℕ → ℕ → ℕ → Cursor → Option (ℕ × ℕ × Cursor) → Type 0
PartStepped s at k c (Some (from, to, after)) =
    (left s at k c ≡ entries_of (shape_of k) (take (to - from) (drop from s)) ++ left s at k after)
    × (from < to) × (to ≤ length s) × CursorIn s at k after × Whole (shape_of k) (take (to - from) (drop from s))
PartStepped s at k c None = left s at k c ≡ []
