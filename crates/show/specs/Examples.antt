-- Worked examples of names in a file. Assumes nothing.
use Rattle.std.specs.Prelude.{ℕ, false, ◌≡◌, refl, Result, Ok, Err}
use mathlib.Core.List.{List, [], ◌∷◌, ◌++◌, flatten}
use Rattle.octets.specs.Number.{num_at, bytes_of}
use Rattle.octets.specs.Digits.{is_digit, digits_from, number_at, digits_of, fewest, fewest_from}
use Rattle.iso8211.specs.Directory.{tag_at, row_at, rows}
use Rattle.iso8211.specs.Field.{count_at, directory_at, field_at}
use Rattle.table.specs.Table.{row_of, table, tag_of, as_number}
use Rattle.table.specs.Text.{bytes}
use Rattle.items.specs.Identity.{rcnm_at, rcid_at}
use Rattle.records.specs.Written.{tag_bytes, body_of, rows_for, longest, farthest, row_bytes, rows_bytes, base_for, leader_of, head_over, head_bytes, record_bytes}
use Rattle.items.specs.Item.{is_feature}
use Rattle.itemfields.specs.Fields.{list_piece, list_pieces, vrid_bytes, vector_pieces, feature_pieces, item_pieces}
use Rattle.loader.specs.BenchSheet.{end, vector, held_node, held_edge}
use Rattle.shownames.specs.Named.{is_named, named_from}
use Rattle.show.specs.Show.{span_of, found_sight, absent}
use Rattle.answers.specs.Answer.{answer}
use Rattle.answers.specs.declared.answer.Answer.{Answer}
use Rattle.show.specs.declared.span.Span.{Span}

-- the connected node and the edge of document 01's bench sheet, one behind the other: 67 and 80 bytes, both with RCID 1
unfoldable two : List ℕ
two = record_bytes held_node ++ record_bytes held_edge

-- what is seen of them by a name
unfoldable by : ℕ → ℕ → Result Span Answer
by rcnm rcid = found_sight false two (named_from 2 two 0 rcnm rcid) absent

-- each by its own class; neither by a class that no vector has, nor by another RCID
seen_by : (by 120 1 ∷ by 130 1 ∷ by 110 1 ∷ by 10 1 ∷ by 130 2 ∷ [])
    ≡ Ok (record { update = false; from = 0; size = 67 })
    ∷ Ok (record { update = false; from = 67; size = 80 })
    ∷ Err (answer 22 0 0 0 0)
    ∷ Err (answer 22 0 0 0 0)
    ∷ Err (answer 22 0 0 0 0)
    ∷ []
unfolding two by is_named named_from span_of found_sight absent end vector held_node held_edge
    num_at bytes_of is_digit digits_from number_at digits_of fewest fewest_from tag_at row_at rows count_at directory_at field_at rcnm_at rcid_at
    row_of table tag_of as_number bytes tag_bytes body_of rows_for longest farthest row_bytes rows_bytes base_for leader_of head_over head_bytes record_bytes
    is_feature list_piece list_pieces vrid_bytes vector_pieces feature_pieces item_pieces flatten
seen_by = refl
