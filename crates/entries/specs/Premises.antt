-- What the code knows of lists of entries. It serves the proofs, and nothing here need be believed. Assumes nothing.
use Rattle.std.specs.Prelude.{ℕ, ◌≤◌, ◌≡◌, length, take}
use mathlib.Core.List.{List, flatten}
use Rattle.entries.specs.declared.Shape.{Shape}
use Rattle.entries.specs.Entries.{entries_of}

-- the shapes that the code takes: an entry has fixed bytes, and a unit of text has at most 2 (1 in all lists of today)
pub record Sound (sh : Shape) : Type 0 where
  pub some : 1 ≤ sh.fixed
  pub slim : sh.fixed ≤ 64
  pub narrow : sh.unit ≤ 2

-- "not filled by its subfields" is Layout: these are bytes that whole entries fill
pub record Whole (sh : Shape) (bs : List ℕ) : Type 0 where
  pub is : flatten (entries_of sh bs) ≡ bs

-- where entry k starts, in bytes; past the last, where the entries end
unfoldable pub place : Shape → ℕ → List ℕ → ℕ
place sh k bs = length (flatten (take k (entries_of sh bs)))
