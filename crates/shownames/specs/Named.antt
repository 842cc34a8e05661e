-- The record that has a name. Assumes nothing.
use Rattle.std.specs.Prelude.{ℕ, zero, suc, ◌-◌, Bool, cond, ◌&&◌, List, eqb, Option, Some, None}
use Rattle.iso8211.specs.Record.{end_of}
use Rattle.iso8211.specs.File.{record_at}
use Rattle.items.specs.Identity.{rcnm_at, rcid_at}
use Rattle.names.specs.Names.{first_item}

-- "NAME is RCNM, RCID": whether the record at `at` has this name
unfoldable pub is_named : List ℕ → ℕ → ℕ → ℕ → Bool
is_named s at rcnm rcid = eqb (rcnm_at s at) rcnm && eqb (rcid_at s at) rcid

-- where the first of n records, from the one at `at` on, stands that has it
unfoldable pub named_from : ℕ → List ℕ → ℕ → ℕ → ℕ → Option ℕ
named_from zero s at rcnm rcid = None
named_from (suc n) s at rcnm rcid = cond (is_named s at rcnm rcid) (Some at) (named_from n s (end_of s at) rcnm rcid)

-- "that vector or feature record": of a file of n records its vectors and features are looked at, and no other record
unfoldable pub named_in : Bool → List ℕ → ℕ → ℕ → ℕ → Option ℕ
named_in update s n rcnm rcid = named_from (n - first_item update) s (record_at s (first_item update)) rcnm rcid
