-- A control of the code acts as `edits` says, with a control and without. Assumes nothing.
use mathlib.Core.Bool.{Bool}
use mathlib.Core.Path.{◌≡◌}
use lib.Dec.{eqb}
use Rattle.std.specs.Prelude.{ℕ, Option, Some, None}
use Rattle.edits.specs.Control.{allowed}
use Rattle.edits.specs.Lists.{list_allowed}
use Rattle.splice.specs.declared.control.Control.{Control}
use Rattle.splice.specs.Given.{numbers_of, option_of}

module _ {o : Option Control} (held brought : ℕ) where
  pub without_told : o ≡ None → eqb brought 0 ≡ list_allowed (option_of o) held brought
  unfolding option_of list_allowed
  without_told is = rw is

  pub with_told : {c : Control} (r : Bool) → o ≡ Some c → r ≡ allowed (numbers_of c) held brought → r ≡ list_allowed (option_of o) held brought
  unfolding option_of list_allowed
  with_told r is e = rw is e
