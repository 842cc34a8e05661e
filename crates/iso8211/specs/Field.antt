-- The fields of a record whose framing is good, in order: what the crates above see of it. Assumes nothing.
use Rattle.std.specs.Prelude.{ℕ, ◌+◌, ◌-◌, ◌*◌, ◌/◌, ◌≤◌, ◌<◌, List, [], ◌≡◌, length, get_or}
use Rattle.octets.specs.Number.{byte_at}
use Rattle.iso8211.specs.Leader.{base_at, length_digits, position_digits}
use Rattle.iso8211.specs.Directory.{row_width, rows, tag, len, position}
use Rattle.iso8211.specs.Record.{Led}
use Rattle.iso8211.specs.declared.field.Field.{Field}

-- how many fields the record at `at` has
unfoldable pub count_at : List ℕ → ℕ → ℕ
count_at s at = (base_at s at - 25) / row_width (length_digits s at) (position_digits s at)

-- its directory
unfoldable pub directory_at : List ℕ → ℕ → List (List ℕ)
directory_at s at = rows (count_at s at) s (length_digits s at) (position_digits s at) (at + 24)

-- a field by its row: its tag, where it starts in the file, and its length with the closing 1E
abbrev pub field_of : List ℕ → ℕ → List ℕ → Field
field_of s at row = record { tag = tag row; start = at + base_at s at + position row; length = len row }

-- field k
unfoldable pub field_at : List ℕ → ℕ → ℕ → Field
field_at s at k = field_of s at (get_or (directory_at s at) k [])

-- what reading its fields takes of a record: its leader and its directory stand there. Its length in the leader is not asked for
pub record Headed (s : List ℕ) (at : ℕ) : Type 0 where
  pub led : Led s at
  pub room : at + base_at s at ≤ length s
  pub short : base_at s at ≤ 99999
  pub low : 25 + row_width (length_digits s at) (position_digits s at) ≤ base_at s at
  pub whole : 25 + count_at s at * row_width (length_digits s at) (position_digits s at) ≡ base_at s at
  pub some : 1 ≤ count_at s at

-- what is known of a field of a record whose fields end by `end`: it lies behind the directory, has a byte at least, and its last is 1E
pub record FieldIn (s : List ℕ) (at end : ℕ) (f : Field) : Type 0 where
  pub after : at + base_at s at ≤ f.start
  pub long : 1 ≤ f.length
  pub within : f.start + f.length ≤ end
  pub ends : byte_at s (f.start + f.length - 1) ≡ 30

-- the same of a record by its directory alone, which may be longer than its leader can say: its fields end by `end`
pub record FieldsIn (s : List ℕ) (at : ℕ) : Type 0 where
  pub headed : Headed s at
  pub end : ℕ
  pub fits : end ≤ length s
  pub small : end ≤ at + 300000
  pub fields : (j : ℕ) → j < count_at s at → FieldIn s at end (field_at s at j)
  pub front : (field_at s at 0).start ≡ at + base_at s at
  pub gapless : (j : ℕ) → j + 1 < count_at s at → (field_at s at (j + 1)).start ≡ (field_at s at j).start + (field_at s at j).length
