-- Limits, pointers and a connected node, computed. Assumes nothing.
use Rattle.std.specs.Prelude.{ℕ, true, false, List, [], ◌∷◌, ◌≡◌, refl}
use Rattle.octets.specs.Number.{num_at}
use Rattle.octets.specs.Digits.{is_digit, digits_from, number_at}
use Rattle.iso8211.specs.Directory.{tag_at, row_at, rows}
use Rattle.iso8211.specs.Field.{count_at, directory_at, field_at}
use Rattle.entries.specs.Entries.{text_from, text_len, entry_len, entries_from, entries_of}
use Rattle.entries.specs.Rules.{all_of, through}
use Rattle.table.specs.Text.{bytes}
use Rattle.table.specs.Table.{table, as_number, row_of, among, kind_of}
use Rattle.items.specs.Lists.{part_at, join_from, list_at, entries_at}
use Rattle.items.specs.Identity.{rcnm_at}
use Rattle.items.specs.Item.{list_of, item_at}
use Rattle.vectorshape.specs.Shape.{magnitude, pair_good, coordinates_good, isolated_good, connected_good, end_good, add_topi, edge_good, class_good, vector_good, one_or_two, line_good}
use Rattle.vectorshape.specs.Shape.{area_good, feature_good, shape_good}

-- "X = 1,800,000,000 at COMF 10,000,000 passes; one more is 17"; the same below 0
east : pair_good 10000000 (0 ∷ 0 ∷ 0 ∷ 0 ∷ 0 ∷ 210 ∷ 73 ∷ 107 ∷ []) ≡ true
unfolding num_at magnitude pair_good
east = refl

too_far_east : pair_good 10000000 (0 ∷ 0 ∷ 0 ∷ 0 ∷ 1 ∷ 210 ∷ 73 ∷ 107 ∷ []) ≡ false
unfolding num_at magnitude pair_good
too_far_east = refl

west : pair_good 10000000 (0 ∷ 0 ∷ 0 ∷ 0 ∷ 0 ∷ 46 ∷ 182 ∷ 148 ∷ []) ≡ true
unfolding num_at magnitude pair_good
west = refl

too_far_west : pair_good 10000000 (0 ∷ 0 ∷ 0 ∷ 0 ∷ 255 ∷ 45 ∷ 182 ∷ 148 ∷ []) ≡ false
unfolding num_at magnitude pair_good
too_far_west = refl

-- "MASK 255 if USAG is 3, else 1 or 2": an edge of the cell's border; then "PRIM 2: .. USAG 255" of a line
border : area_good (130 ∷ 1 ∷ 0 ∷ 0 ∷ 0 ∷ 1 ∷ 3 ∷ 255 ∷ []) ≡ true
unfolding one_or_two area_good
border = refl

no_border : line_good (130 ∷ 1 ∷ 0 ∷ 0 ∷ 0 ∷ 1 ∷ 255 ∷ 255 ∷ []) ≡ false
unfolding one_or_two line_good
no_border = refl

-- a record of one pair and no VRPT, of the RCNM given
unfoldable single : ℕ → List ℕ
single rcnm =
    48 ∷ 48 ∷ 48 ∷ 54 ∷ 55 ∷ 32 ∷ 68 ∷ 32 ∷ 32 ∷ 32 ∷ 32 ∷ 32 ∷ 48 ∷ 48 ∷ 48 ∷ 52 ∷ 54 ∷ 32 ∷ 32 ∷ 32 ∷ 49 ∷ 50 ∷ 48 ∷ 52
    ∷ 48 ∷ 48 ∷ 48 ∷ 49 ∷ 51 ∷ 48 ∷ 48 ∷ 86 ∷ 82 ∷ 73 ∷ 68 ∷ 57 ∷ 48 ∷ 51 ∷ 83 ∷ 71 ∷ 50 ∷ 68 ∷ 57 ∷ 49 ∷ 50 ∷ 30
    ∷ 3 ∷ 0 ∷ 30 ∷ rcnm ∷ 1 ∷ 0 ∷ 0 ∷ 0 ∷ 1 ∷ 0 ∷ 1 ∷ 30 ∷ 0 ∷ 0 ∷ 0 ∷ 0 ∷ 0 ∷ 210 ∷ 73 ∷ 107 ∷ 30 ∷ []

-- "Connected node: one pair"; an edge wants two VRPT
node : shape_good 10000000 (item_at (single 120) 0) ≡ true
unfolding single num_at is_digit digits_from number_at tag_at row_at rows count_at directory_at field_at
    text_from text_len entry_len entries_from entries_of bytes table as_number row_of among kind_of part_at join_from list_at entries_at list_of
    all_of through rcnm_at magnitude pair_good coordinates_good isolated_good connected_good end_good add_topi edge_good class_good vector_good feature_good shape_good
node = refl

edge : shape_good 10000000 (item_at (single 130) 0) ≡ false
unfolding single num_at is_digit digits_from number_at tag_at row_at rows count_at directory_at field_at
    text_from text_len entry_len entries_from entries_of bytes table as_number row_of among kind_of part_at join_from list_at entries_at list_of
    all_of through rcnm_at magnitude pair_good coordinates_good isolated_good connected_good end_good add_topi edge_good class_good vector_good feature_good shape_good
edge = refl
