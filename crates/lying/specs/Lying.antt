-- Where the fields of each kind lie, as the code keeps it: of kind k number k is where its one field starts, number k + 20 where its content ends.
-- It serves the proofs, and nothing here need be believed. Assumes nothing.
use Rattle.std.specs.Prelude.{ℕ, ◌+◌, ◌-◌, ◌≤◌, ◌<◌, List, ◌++◌, ◌≡◌, length, take, drop, get_or}
use Rattle.iso8211.specs.Field.{count_at}
use Rattle.iso8211.specs.declared.field.Field.{Field}
use Rattle.table.specs.Table.{kind_count}
use Rattle.items.specs.Lists.{join_from, list_at}
use Rattle.lying.specs.declared.Place.{Place}

abbrev pub from_of : List ℕ → ℕ → ℕ
from_of l k = get_or l k 0

abbrev pub to_of : List ℕ → ℕ → ℕ
to_of l k = get_or l (k + kind_count) 0

-- no kind has bytes yet
pub record Nowhere (l : List ℕ) : Type 0 where
  pub long : length l ≡ 40
  pub zero : (i : ℕ) → i < 40 → get_or l i 0 ≡ 0

-- the place of kind k is this one, the others are as they were
pub record Set (l : List ℕ) (k from to : ℕ) (next : List ℕ) : Type 0 where
  pub long : length next ≡ 40
  pub start : from_of next k ≡ from
  pub end : to_of next k ≡ to
  pub starts : (i : ℕ) → i < kind_count → (i ≡ k → ⊥) → from_of next i ≡ from_of l i
  pub ends : (i : ℕ) → i < kind_count → (i ≡ k → ⊥) → to_of next i ≡ to_of l i

-- field f of kind k has its place, or, where one with bytes came before it, none
pub record Kept (l : List ℕ) (k : ℕ) (f : Field) (next : List ℕ) : Type 0 where
  pub several : (from_of l k ≡ to_of l k → ⊥) → Set l k 1 0 next
  pub one : from_of l k ≡ to_of l k → Set l k f.start (f.start + (f.length - 1)) next

-- the list of each kind is the bytes of its place and what comes from field j on
pub record LainTo (s : List ℕ) (at j : ℕ) (l : List ℕ) : Type 0 where
  pub long : length l ≡ 40
  pub within : (k : ℕ) → k < kind_count → from_of l k ≤ to_of l k → to_of l k ≤ length s
  pub is : (k : ℕ) → k < kind_count → from_of l k ≤ to_of l k
      → list_at s at k ≡ take (to_of l k - from_of l k) (drop (from_of l k) s) ++ join_from (count_at s at - j) s at k j

-- it is the bytes of its place
pub record Lain (s : List ℕ) (at : ℕ) (l : List ℕ) : Type 0 where
  pub long : length l ≡ 40
  pub within : (k : ℕ) → k < kind_count → from_of l k ≤ to_of l k → to_of l k ≤ length s
  pub is : (k : ℕ) → k < kind_count → from_of l k ≤ to_of l k → list_at s at k ≡ take (to_of l k - from_of l k) (drop (from_of l k) s)

-- the same of one kind
pub record Lies (s : List ℕ) (at k : ℕ) (p : Place) : Type 0 where
  pub within : p.from ≤ p.to → p.to ≤ length s
  pub is : p.from ≤ p.to → list_at s at k ≡ take (p.to - p.from) (drop p.from s)
