-- Record 0 of the held form, computed with any bytes behind it. Assumes nothing.
use Prim.Native.Nat.{ℕ, suc, ◌+◌, ◌≤◌}
use mathlib.Core.Bool.{Bool, true, false, ◌||◌}
use mathlib.Core.List.{List, [], ◌∷◌, ◌++◌}
use mathlib.Core.Path.{◌≡◌, refl, ap}
use native.Mathlib.Omega.{arith}
use lib.ListN.{length, get_or}
use lib.Dec.{eqb}
use borrow.Author.Tests.{le-leb, eqb-true}
use Rattle.octets.proofs.ListLaws.{all_below, all_below_lem}
use Rattle.octets.specs.Digits.{digits_from, number_at, is_digit, digits_of, fewest, fewest_from}
use Rattle.iso8211.specs.Leader.{kind_good, size_good, leader_good}
use Rattle.iso8211.specs.Directory.{tag_at, row_at, rows}
use Rattle.iso8211.specs.Record.{field_good, in_row, body_good, record_good, end_of}
use Rattle.iso8211.specs.Field.{count_at, directory_at, field_at}
use Rattle.formats.specs.Formats as formats
use Rattle.formats.specs.Formats.{digit_at, short_from, short_at, is_letter, closed, sized_at, counts, binary_at, primitive_at, single, repeated, joined, followed, item_at, items_from}
use Rattle.formats.specs.Formats.{list_at, written_at}
use Rattle.fieldparts.specs.Descriptive.{parts_of, parts_at, separator_at, separator_in}
use Rattle.fieldparts.specs.Same.{same_list}
use Rattle.table.specs.Table.{row_of, table, tag_of, kind_of, among, as_number, first}
use Rattle.table.specs.Text.{bytes}
use Rattle.declarations.specs.Described.{labels_in, formats_in, same_formats, describes, described_from, described_of}
use Rattle.records.specs.Written.{tag_bytes, body_of, rows_for, longest, farthest, row_bytes, rows_bytes, base_for}
use Rattle.records.specs.Premises.{First}
use Rattle.header.specs.First.{tree, declares, first_pieces, first_leader, first_over, first_record}
use Rattle.header.specs.Literal.{first_bytes}
use Rattle.itemfields.proofs.LaidLaws.{Declared}

first_good : (t : List ℕ) → record_good true (first_bytes ++ t) 0 ≡ true
unfolding first_bytes digits_from number_at is_digit kind_good size_good leader_good tag_at row_at rows field_good in_row body_good record_good
first_good t = rw (le-leb 24 (length (first_bytes ++ t)) (omega arith), le-leb 1561 (length (first_bytes ++ t)) (omega arith))

first_end : (t : List ℕ) → end_of (first_bytes ++ t) 0 ≡ length first_bytes
unfolding first_bytes digits_from number_at is_digit
first_end t = refl

literal_is : First first_bytes
literal_is = record { good = first_good; end = first_end }

-- it declares the fourteen tags of a cell and 0001, and no control
abbrev pub first_marks : List ℕ
first_marks = 1 ∷ 1 ∷ 1 ∷ 1 ∷ 1 ∷ 0 ∷ 1 ∷ 0 ∷ 1 ∷ 1 ∷ 1 ∷ 1 ∷ 1 ∷ 1 ∷ 0 ∷ 1 ∷ 0 ∷ 1 ∷ 1 ∷ 0 ∷ []

literal_described : (t : List ℕ) → described_of (first_bytes ++ t) ≡ first_marks
unfolding first_bytes digits_from number_at is_digit tag_at row_at rows count_at directory_at field_at described_of described_from describes labels_in formats_in same_formats parts_of
    parts_at separator_at separator_in same_list digit_at short_from short_at formats.count_at is_letter closed sized_at counts binary_at primitive_at single repeated joined followed
    item_at items_from list_at written_at row_of table tag_of kind_of among as_number bytes
literal_described t = refl

declared_first_lem : (k : ℕ) → k ≤ first → (row_of k).control ≡ false → get_or first_marks k 0 ≡ 1
unfolding all_below row_of table
declared_first_lem k few free =
    eqb-true (get_or first_marks k 0) 1
    (or_free (row_of k).control (eqb (get_or first_marks k 0) 1) (all_below_lem (λ j. (row_of j).control || eqb (get_or first_marks j 0) 1) (suc first) k refl (omega arith)) free)
  where
    or_free : (a b : Bool) → (a || b) ≡ true → a ≡ false → b ≡ true
    or_free false b h e = h
    or_free true b h e = absurd (let z : ◌≡◌ {A = ℕ} 0 1 = cc in omega arith)

pub first_declares : Declared first_marks
first_declares = record { is = declared_first_lem }

-- ---- the literal is what First.antt says
pub first_literal : first_record ≡ first_bytes
unfolding first_bytes first_record first_over first_leader first_pieces tree declares bytes row_of table tag_of as_number digits_of fewest fewest_from tag_bytes body_of rows_for longest
    farthest row_bytes rows_bytes base_for
first_literal = refl

pub first_is : First first_record
first_is = rw first_literal literal_is

pub first_described : (t : List ℕ) → described_of (first_record ++ t) ≡ first_marks
first_described t = rw first_literal (literal_described t)

pub first_length : length first_record ≡ 1561
unfolding first_bytes
first_length = ap length first_literal
