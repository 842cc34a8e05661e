-- What the records of an update that insert or delete may have beside their identifier fields. Assumes nothing.
use Rattle.std.specs.Prelude.{ℕ, Bool, true, false, not, cond, ◌&&◌, List}
use Rattle.std.proofs.Math.Option.{Option, none, some}
use Rattle.entries.specs.Rules.{all_of}
use Rattle.attributes.specs.Attributes.{is_removal}
use Rattle.fieldvalue.specs.Value.{is_attributes}
use Rattle.edits.specs.Control.{Control}
use Rattle.edits.specs.Lists.{Edit, is_none}

unfoldable pub is_absent : Option Control → Bool
is_absent none = true
is_absent (some c) = false

-- "Insert: .. no control field"
unfoldable pub no_control : Edit → Bool
no_control u = is_absent u.first && is_absent u.second

-- "no value 7F"
unfoldable pub plain_at : (ℕ → List (List ℕ)) → ℕ → Bool
plain_at ls k = cond (is_attributes k) (all_of (λ e. not (is_removal e)) (ls k)) true

-- in the lists of a vector (`vector_kinds`) or of a feature (`feature_kinds`); the lists that come are those of the new record
unfoldable pub insert_allowed : List ℕ → Edit → Bool
insert_allowed kinds u = no_control u && all_of (plain_at u.lists) kinds

-- "Delete: identifier fields only"
unfoldable pub delete_allowed : List ℕ → Edit → Bool
delete_allowed kinds u = no_control u && all_of (λ k. is_none (u.lists k)) kinds
