-- The lists of a record: the fields of one kind, joined. Assumes nothing.
use Rattle.std.specs.Prelude.{ℕ, zero, suc, ◌+◌, cond, List, [], ◌++◌, eqb}
use Rattle.iso8211.specs.Field.{count_at}
use Rattle.entries.specs.Entries.{entries_of}
use Rattle.layout.specs.Layout.{shape_of}
use Rattle.layout.specs.Record.{kind_at, content_at}

-- what field j brings to the list of kind k
unfoldable pub part_at : List ℕ → ℕ → ℕ → ℕ → List ℕ
part_at s at k j = cond (eqb (kind_at s at j) k) (content_at s at j) []

-- what n fields from field j on bring to it
unfoldable pub join_from : ℕ → List ℕ → ℕ → ℕ → ℕ → List ℕ
join_from zero s at k j = []
join_from (suc n) s at k j = part_at s at k j ++ join_from n s at k (j + 1)

-- "Repeats of a tag join into one list": the bytes of the list of kind k
unfoldable pub list_at : List ℕ → ℕ → ℕ → List ℕ
list_at s at k = join_from (count_at s at) s at k 0

-- its entries, each a byte string
unfoldable pub entries_at : List ℕ → ℕ → ℕ → List (List ℕ)
entries_at s at k = entries_of (shape_of k) (list_at s at k)
