-- What a caller knows of a record before it is laid out, and what is known of it after. Assumes nothing.
use Rattle.std.specs.Prelude.{ℕ, List}
use Rattle.iso8211.specs.Field.{field_at}
use Rattle.table.specs.Table.{kind_of}
use Rattle.layout.specs.Layout.{content_of}

-- the kind of field j of the record at `at`
abbrev pub kind_at : List ℕ → ℕ → ℕ → ℕ
kind_at s at j = kind_of (field_at s at j).tag

-- its bytes without the closing 1E
abbrev pub content_at : List ℕ → ℕ → ℕ → List ℕ
content_at s at j = content_of s (field_at s at j)
