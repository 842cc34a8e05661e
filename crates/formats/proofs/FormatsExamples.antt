-- Worked examples of format lists, computed. Assumes nothing.
use mathlib.Core.List.{[], ◌∷◌}
use mathlib.Core.Path.{◌≡◌, refl}
use Rattle.octets.specs.Digits.{is_digit}
use Rattle.formats.specs.Formats.{form, broken, digit_at, short_from, short_at, count_at, is_letter, closed, sized_at, counts, binary_at, primitive_at, single, repeated, joined}
use Rattle.formats.specs.Formats.{followed, item_at, items_from, list_at, written_at}

-- (b11,b14,2b11,3A,2A(8),R(4),b11,2A,b11,b12,A)
sixteen : written_at (40 ∷ 98 ∷ 49 ∷ 49 ∷ 44 ∷ 98 ∷ 49 ∷ 52 ∷ 44 ∷ 50 ∷ 98 ∷ 49 ∷ 49 ∷ 44 ∷ 51 ∷ 65 ∷ 44 ∷ 50 ∷ 65 ∷ 40 ∷ 56 ∷ 41 ∷ 44 ∷ 82 ∷ 40 ∷ 52 ∷ 41 ∷ 44 ∷ 98 ∷ 49 ∷ 49 ∷ 44
    ∷ 50 ∷ 65 ∷ 44 ∷ 98 ∷ 49 ∷ 49 ∷ 44 ∷ 98 ∷ 49 ∷ 50 ∷ 44 ∷ 65 ∷ 41 ∷ []) 0 ≡ form (2914 ∷ 3682 ∷ 2914 ∷ 2914 ∷ 65 ∷ 65 ∷ 65 ∷ 2113 ∷ 2113 ∷ 1106 ∷ 2914 ∷ 65 ∷ 65 ∷ 2914 ∷ 3170
    ∷ 65 ∷ []) 45
unfolding is_digit digit_at short_from short_at count_at is_letter closed sized_at counts binary_at primitive_at single repeated joined followed item_at items_from list_at written_at
sixteen = refl

-- (2(A,b11))
twice : written_at (40 ∷ 50 ∷ 40 ∷ 65 ∷ 44 ∷ 98 ∷ 49 ∷ 49 ∷ 41 ∷ 41 ∷ []) 0 ≡ form (65 ∷ 2914 ∷ 65 ∷ 2914 ∷ []) 10
unfolding is_digit digit_at short_from short_at count_at is_letter closed sized_at counts binary_at primitive_at single repeated joined followed item_at items_from list_at written_at
twice = refl

-- ()
empty : written_at (40 ∷ 41 ∷ []) 0 ≡ broken
unfolding is_digit digit_at short_from short_at count_at is_letter closed sized_at counts binary_at primitive_at single repeated joined followed item_at items_from list_at written_at
empty = refl

-- (A())
no_size : written_at (40 ∷ 65 ∷ 40 ∷ 41 ∷ 41 ∷ []) 0 ≡ broken
unfolding is_digit digit_at short_from short_at count_at is_letter closed sized_at counts binary_at primitive_at single repeated joined followed item_at items_from list_at written_at
no_size = refl

-- (A()
open_size : written_at (40 ∷ 65 ∷ 40 ∷ 41 ∷ []) 0 ≡ broken
unfolding is_digit digit_at short_from short_at count_at is_letter closed sized_at counts binary_at primitive_at single repeated joined followed item_at items_from list_at written_at
open_size = refl

-- (A(08))
zero_size : written_at (40 ∷ 65 ∷ 40 ∷ 48 ∷ 56 ∷ 41 ∷ 41 ∷ []) 0 ≡ broken
unfolding is_digit digit_at short_from short_at count_at is_letter closed sized_at counts binary_at primitive_at single repeated joined followed item_at items_from list_at written_at
zero_size = refl

-- (0A)
no_times : written_at (40 ∷ 48 ∷ 65 ∷ 41 ∷ []) 0 ≡ broken
unfolding is_digit digit_at short_from short_at count_at is_letter closed sized_at counts binary_at primitive_at single repeated joined followed item_at items_from list_at written_at
no_times = refl

-- (01A)
zero_times : written_at (40 ∷ 48 ∷ 49 ∷ 65 ∷ 41 ∷ []) 0 ≡ broken
unfolding is_digit digit_at short_from short_at count_at is_letter closed sized_at counts binary_at primitive_at single repeated joined followed item_at items_from list_at written_at
zero_times = refl

-- (100A)
hundred : written_at (40 ∷ 49 ∷ 48 ∷ 48 ∷ 65 ∷ 41 ∷ []) 0 ≡ broken
unfolding is_digit digit_at short_from short_at count_at is_letter closed sized_at counts binary_at primitive_at single repeated joined followed item_at items_from list_at written_at
hundred = refl

-- ((((A))))
four_levels : written_at (40 ∷ 40 ∷ 40 ∷ 40 ∷ 65 ∷ 41 ∷ 41 ∷ 41 ∷ 41 ∷ []) 0 ≡ form (65 ∷ []) 9
unfolding is_digit digit_at short_from short_at count_at is_letter closed sized_at counts binary_at primitive_at single repeated joined followed item_at items_from list_at written_at
four_levels = refl

-- (((((A)))))
five_levels : written_at (40 ∷ 40 ∷ 40 ∷ 40 ∷ 40 ∷ 65 ∷ 41 ∷ 41 ∷ 41 ∷ 41 ∷ 41 ∷ []) 0 ≡ broken
unfolding is_digit digit_at short_from short_at count_at is_letter closed sized_at counts binary_at primitive_at single repeated joined followed item_at items_from list_at written_at
five_levels = refl

-- 2(A)
outer_times : written_at (50 ∷ 40 ∷ 65 ∷ 41 ∷ []) 0 ≡ broken
unfolding is_digit digit_at short_from short_at count_at is_letter closed sized_at counts binary_at primitive_at single repeated joined followed item_at items_from list_at written_at
outer_times = refl

-- (33A)
too_many : written_at (40 ∷ 51 ∷ 51 ∷ 65 ∷ 41 ∷ []) 0 ≡ broken
unfolding is_digit digit_at short_from short_at count_at is_letter closed sized_at counts binary_at primitive_at single repeated joined followed item_at items_from list_at written_at
too_many = refl

-- (b01)
zero_digit : written_at (40 ∷ 98 ∷ 48 ∷ 49 ∷ 41 ∷ []) 0 ≡ broken
unfolding is_digit digit_at short_from short_at count_at is_letter closed sized_at counts binary_at primitive_at single repeated joined followed item_at items_from list_at written_at
zero_digit = refl

-- (A,)
open_comma : written_at (40 ∷ 65 ∷ 44 ∷ 41 ∷ []) 0 ≡ broken
unfolding is_digit digit_at short_from short_at count_at is_letter closed sized_at counts binary_at primitive_at single repeated joined followed item_at items_from list_at written_at
open_comma = refl
