-- What a record of an update brings, as the code reads it. Nothing here need be believed. Assumes nothing.
use Rattle.std.specs.Prelude.{ℕ, ◌-◌, Bool, true, not, List, [], ◌≡◌, length, eqb}
use Rattle.attributes.specs.Attributes.{is_removal}
use Rattle.iso8211.specs.Field.{count_at}
use Rattle.items.specs.Lists.{part_at, list_at, join_from}
use Rattle.edits.specs.Lists.{allowed_at}
use Rattle.changes.specs.Change.{amendment_at, edit_of}

-- an attribute that is no removal
abbrev pub is_kept : List ℕ → Bool
is_kept e = not (is_removal e)

-- the record at `at` has no bytes of kind k
unfoldable pub is_empty : List ℕ → ℕ → ℕ → Bool
is_empty s at k = eqb (length (list_at s at k)) 0

-- where r is true, field f of the record at `at` brings nothing to list k
pub record SkipsTold (s : List ℕ) (at f k : ℕ) (r : Bool) : Type 0 where
  pub is : r ≡ true → part_at s at k f ≡ []

-- where r is true, the record at `at` has no bytes of kind k
pub record LacksTold (s : List ℕ) (at k : ℕ) (r : Bool) : Type 0 where
  pub is : r ≡ true → list_at s at k ≡ []

-- no field before field f is of kind k
pub record Without (s : List ℕ) (at k f : ℕ) : Type 0 where
  pub left : list_at s at k ≡ join_from (count_at s at - f) s at k f

-- where r is true, list k may be edited so, whatever is held
pub record AddsTold (update : List ℕ) (by k : ℕ) (r : Bool) : Type 0 where
  pub is : r ≡ true → (held : ℕ → List (List ℕ)) → allowed_at (edit_of (amendment_at update by)) held k ≡ true
