-- What the walk over a record knows on its way. It serves the proofs, and nothing here need be believed. Assumes nothing.
use Rattle.std.specs.Prelude.{ℕ, ◌+◌, ◌-◌, ◌%◌, ◌≤◌, Bool, true, false, ◌&&◌, List, ◌≡◌, length, leb, eqb, Ok}
use Rattle.octets.specs.Number.{byte_at}
use Rattle.octets.specs.Digits.{number_at}
use Rattle.iso8211.specs.Leader.{size_at, base_at, length_digits, position_digits}
use Rattle.iso8211.specs.Directory.{row_width}
use Rattle.iso8211.specs.Record.{record_good, in_row, end_of}
use Rattle.iso8211.specs.Field.{count_at, directory_at}
use Rattle.iso8211.specs.Premises.{FramedAt}
use Rattle.layout.specs.Layout.{may_end, layout_fault}
use Rattle.layout.specs.Record.{kind_at}
use Rattle.fieldvalue.specs.Judged.{RecordJudged}
use Rattle.recordfine.specs.declared.open.Open.{Open}
use Rattle.recordfine.specs.declared.Fine.{Fine}

-- what is asked of a record before its fields, from the numbers of its leader: all of `body_good` but its fields, and a second field
unfoldable pub head_good : List ℕ → ℕ → ℕ → ℕ → ℕ → ℕ → Bool
head_good s at size base l p =
    leb size 99999
    && (leb (at + size) (length s)
    && (leb base size
    && (leb (25 + (row_width l p + row_width l p)) base
    && (eqb ((base - 25) % row_width l p) 0
    && eqb (byte_at s (at + base - 1)) 30))))

-- h has the numbers of a leader that is good, so that only the fields are left to be judged
pub record OpenAt (s : List ℕ) (at : ℕ) (h : Open) : Type 0 where
  pub framed : FramedAt s at
  pub good : record_good false s at ≡ in_row s (at + base_at s at) (size_at s at - base_at s at) (directory_at s at) 0
  pub two : 2 ≤ count_at s at
  pub ends : h.end ≡ end_of s at
  pub fits : h.end ≤ length s
  pub body : h.body ≡ at + base_at s at
  pub room : h.body ≤ h.end
  pub small : h.end ≤ h.body + 99999
  pub lengths : h.lengths ≡ length_digits s at
  pub positions : h.positions ≡ position_digits s at
  pub slim : (h.lengths ≤ 9) × (h.positions ≤ 9)

pub record Opened (s : List ℕ) (at : ℕ) (h : Open) : Type 0 where
  pub told : (h.end ≡ 0 → ⊥) → OpenAt s at h

-- the row at i is that of a field of `long` bytes that is framed well, due at `due`
pub record RowGood (s : List ℕ) (i l p body size due long : ℕ) : Type 0 where
  pub is : long ≡ number_at s (i + 4) l
  pub place : number_at s (i + 4 + l) p ≡ due
  pub some : 1 ≤ long
  pub within : due + long ≤ size
  pub ends : byte_at s (body + (due + long) - 1) ≡ 30

pub record RowTold (s : List ℕ) (i l p body size due long : ℕ) : Type 0 where
  pub told : (long ≡ 0 → ⊥) → RowGood s i l p body size due long

-- where r says yes, the fields fill the record, and the last may be the last
pub record WholeTold (due size prev : ℕ) (r : Bool) : Type 0 where
  pub full : r ≡ true → due ≡ size
  pub last : r ≡ true → may_end prev ≡ true

-- the fields of the record at `at`, whose leader is good, are fine
pub record FieldsTold (update : Bool) (stage : ℕ) (marks : List ℕ) (aall nall : ℕ) (s : List ℕ) (at : ℕ) (before after : List ℕ) (r : Bool) : Type 0 where
  pub good : r ≡ true → record_good false s at ≡ true
  pub laid : r ≡ true → layout_fault update stage marks s at ≡ 0
  pub valued : r ≡ true → RecordJudged update aall nall s at before after (Ok tt)

-- r has the end of the record and the kind of its second field, and where that starts behind a field of three bytes
pub record IdentifiedBy (s : List ℕ) (at : ℕ) (h : Open) (r : Fine) : Type 0 where
  pub ends : r.end ≡ h.end
  pub starts : r.id ≡ h.body + 3
  pub kinded : r.kind ≡ kind_at s at 1
