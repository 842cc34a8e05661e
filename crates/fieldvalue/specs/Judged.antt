-- What judging the values of a field and of a record promises. It serves the proofs, and nothing here need be believed. Assumes nothing.
use Rattle.std.specs.Prelude.{ℕ, ◌≤◌, ◌<◌, Bool, true, List, ◌≡◌, length, Result, OnOk, IfErr}
use Rattle.values.specs.declared.fault.Fault.{Fault}
use Rattle.values.specs.Fault.{told, told_place}
use Rattle.iso8211.specs.Record.{end_of}
use Rattle.iso8211.specs.Field.{count_at}
use Rattle.iso8211.specs.Premises.{RecordIn}
use Rattle.layout.specs.Layout.{filled}
use Rattle.layout.specs.Record.{kind_at, content_at}
use Rattle.attributes.specs.Premises.{Stamped, Upto}
use Rattle.fieldvalue.specs.Value.{field_fault, seen_after, value_fault}

-- r tells the fault of a field of kind k with the content c, at any levels and whatever labels were met
pub record PlainJudged (update : Bool) (k : ℕ) (c : List ℕ) (r : Result Unit Fault) : Type 0 where
  pub fault : (aall nall : ℕ) (seen : List ℕ) → r ≡ told (field_fault update aall nall k seen c)
  pub within : IfErr r (λ f. f.at < length c)

-- r tells the fault of a field of kind k with the content c, whatever labels its list had met in the fields before, as long as the table
-- `before` has exactly these under the stamp; where there is none, the table `after` has those met behind it
pub record FieldJudged (update : Bool) (aall nall k : ℕ) (c : List ℕ) (stamp : ℕ) (before after : List ℕ) (r : Result Unit Fault) : Type 0 where
  pub fault : (seen : List ℕ) → Stamped before stamp seen → r ≡ told (field_fault update aall nall k seen c)
  pub met : (seen : List ℕ) → Stamped before stamp seen → OnOk r (Stamped after stamp (seen_after k seen c))
  pub upto : Upto before stamp → Upto after stamp
  pub within : IfErr r (λ f. f.at < length c)

-- a record that is framed, and whose fields are filled by their subfields
pub record Full (s : List ℕ) (at : ℕ) : Type 0 where
  pub known : RecordIn s at
  pub full : (j : ℕ) → j < count_at s at → filled (kind_at s at j) (content_at s at j) ≡ true

-- r tells the fault of the values of the record at `at`, where the stamps in the table `before` are those of the records before it
pub record RecordJudged (update : Bool) (aall nall : ℕ) (s : List ℕ) (at : ℕ) (before after : List ℕ) (r : Result Unit Fault) : Type 0 where
  pub fault : Upto before at → r ≡ told_place (value_fault update aall nall s at)
  pub upto : Upto before at → Upto after (end_of s at)
  pub within : IfErr r (λ f. f.at ≤ length s)
