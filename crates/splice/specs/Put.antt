-- What the writers of an edited list take and promise. Nothing here need be believed. Assumes nothing.
use Rattle.std.specs.Prelude.{ℕ, ◌≤◌, Bool, true, false, List, Option, Some, None, ◌≡◌, length}
use Rattle.octets.specs.Area.{Wrote}
use Rattle.entries.specs.declared.Shape.{Shape}
use Rattle.entries.specs.Premises.{Sound, Whole}

-- two lists of one shape
pub record Two (sh : Shape) (held brought : List ℕ) : Type 0 where
  pub sound : Sound sh
  pub old : Whole sh held
  pub new : Whole sh brought
  pub short : length held ≤ 300000
  pub short_new : length brought ≤ 300000

-- r is none exactly where the edit may not be done; where it may, its bytes are written, and r is where they end
pub record ListPut (may : Bool) (bytes area : List ℕ) (at : ℕ) (next : List ℕ) (r : Option ℕ) : Type 0 where
  pub no : r ≡ None → may ≡ false
  pub yes : (e : ℕ) → r ≡ Some e → (may ≡ true) × Wrote area at bytes next e
  pub size : length next ≡ length area
