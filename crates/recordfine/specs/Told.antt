-- What one walk over a record promises, one way only: of a record that it finds fine. It serves the proofs, and nothing here need be believed. Assumes nothing.
use Rattle.std.specs.Prelude.{ℕ, ◌≤◌, Bool, true, false, List, ◌≡◌, length}
use Rattle.iso8211.specs.Record.{record_good, end_of}
use Rattle.iso8211.specs.Field.{field_at}
use Rattle.attributes.specs.Premises.{Upto}
use Rattle.layout.specs.Layout.{layout_fault}
use Rattle.layout.specs.Record.{kind_at}
use Rattle.fieldvalue.specs.Value.{value_fault}
use Rattle.recordfine.specs.declared.Fine.{Fine}

-- where the record at `at` ends by r, its framing is good, its layout and its values have no fault, as long as the stamps in the table `before`
-- are those of the records before it; r has its identifier field too
pub record FineTold (update : Bool) (stage : ℕ) (marks : List ℕ) (aall nall : ℕ) (s : List ℕ) (at : ℕ) (before after : List ℕ) (r : Fine) : Type 0 where
  pub good : (r.end ≡ 0 → ⊥) → record_good false s at ≡ true
  pub ends : (r.end ≡ 0 → ⊥) → r.end ≡ end_of s at
  pub laid : (r.end ≡ 0 → ⊥) → layout_fault update stage marks s at ≡ 0
  pub valued : (r.end ≡ 0 → ⊥) → Upto before at → value_fault update aall nall s at ≡ 0
  pub upto : (r.end ≡ 0 → ⊥) → Upto before at → Upto after (end_of s at)
  pub starts : (r.end ≡ 0 → ⊥) → r.id ≡ (field_at s at 1).start
  pub kinded : (r.end ≡ 0 → ⊥) → r.kind ≡ kind_at s at 1
  pub within : r.end ≤ length s
