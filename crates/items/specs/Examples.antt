-- A record with a list in two fields, and names, computed. Assumes nothing.
use Rattle.std.specs.Prelude.{ℕ, List, [], ◌∷◌, ◌≡◌, refl}
use Rattle.octets.specs.Number.{num_at}
use Rattle.octets.specs.Digits.{is_digit, digits_from, number_at}
use Rattle.iso8211.specs.Directory.{tag_at, row_at, rows}
use Rattle.iso8211.specs.Field.{count_at, directory_at, field_at}
use Rattle.entries.specs.Entries.{text_from, text_len, entry_len, entries_from, entries_of}
use Rattle.table.specs.Text.{bytes}
use Rattle.table.specs.Table.{table, as_number, row_of, among, kind_of, ATTV}
use Rattle.items.specs.Lists.{part_at, join_from, list_at, entries_at}
use Rattle.items.specs.Cursors.{left}
use Rattle.items.specs.Identity.{rcnm_at, rcid_at, rank_of, version_at, name_from, name_at}

-- an isolated node 7 of version 2: 0001, VRID, ATTV with one attribute, ATTV with two
unfoldable node : List ℕ
node =
    48 ∷ 48 ∷ 48 ∷ 55 ∷ 56 ∷ 32 ∷ 68 ∷ 32 ∷ 32 ∷ 32 ∷ 32 ∷ 32 ∷ 48 ∷ 48 ∷ 48 ∷ 53 ∷ 51 ∷ 32 ∷ 32 ∷ 32 ∷ 49 ∷ 50 ∷ 48 ∷ 52
    ∷ 48 ∷ 48 ∷ 48 ∷ 49 ∷ 51 ∷ 48 ∷ 48 ∷ 86 ∷ 82 ∷ 73 ∷ 68 ∷ 57 ∷ 48 ∷ 51 ∷ 65 ∷ 84 ∷ 84 ∷ 86 ∷ 53 ∷ 49 ∷ 50
    ∷ 65 ∷ 84 ∷ 84 ∷ 86 ∷ 56 ∷ 49 ∷ 55 ∷ 30
    ∷ 3 ∷ 0 ∷ 30 ∷ 110 ∷ 7 ∷ 0 ∷ 0 ∷ 0 ∷ 2 ∷ 0 ∷ 1 ∷ 30 ∷ 75 ∷ 0 ∷ 49 ∷ 31 ∷ 30 ∷ 31 ∷ 0 ∷ 31 ∷ 12 ∷ 0 ∷ 50 ∷ 31 ∷ 30 ∷ []

-- "Repeats of a tag join into one list"
attributes : entries_at node 0 ATTV ≡ (75 ∷ 0 ∷ 49 ∷ 31 ∷ []) ∷ (31 ∷ 0 ∷ 31 ∷ []) ∷ (12 ∷ 0 ∷ 50 ∷ 31 ∷ []) ∷ []
unfolding node num_at is_digit digits_from number_at tag_at row_at rows count_at directory_at field_at
    text_from text_len entry_len entries_from entries_of bytes table as_number row_of among kind_of part_at join_from list_at entries_at
attributes = refl

-- behind the first entry of the second field
last : left node 0 ATTV (record { field = 4; from = 73; to = 77 }) ≡ (12 ∷ 0 ∷ 50 ∷ 31 ∷ []) ∷ []
unfolding node num_at is_digit digits_from number_at tag_at row_at rows count_at directory_at field_at
    text_from text_len entry_len entries_from entries_of bytes table as_number row_of among kind_of part_at join_from left
last = refl

version : version_at node 0 ≡ 2
unfolding node num_at is_digit digits_from number_at tag_at row_at rows count_at directory_at field_at rcnm_at version_at
version = refl

-- "vectors by class 110, 120, 130, then features, RCID ascending": this node, an edge 7 and a feature 1, in held order
name : name_at node 0 ≡ 7
unfolding node num_at is_digit digits_from number_at tag_at row_at rows count_at directory_at field_at rcnm_at rcid_at rank_of name_from name_at
name = refl

edge : name_from 130 7 ≡ 8589934599
unfolding rank_of name_from
edge = refl

feature : name_from 100 1 ≡ 12884901889
unfolding rank_of name_from
feature = refl
