-- The format list of a field of record 0, written out. Assumes nothing.
use Rattle.std.specs.Prelude.{ℕ, zero, suc, ◌+◌, ◌-◌, ◌*◌, Bool, cond, ◌&&◌, ◌||◌, List, [], ◌∷◌, ◌++◌, length, eqb, leb, ltb}
use Rattle.octets.specs.Number.{byte_at}
use Rattle.octets.specs.Digits.{is_digit}
use Rattle.formats.specs.declared.Taken.{Taken}

-- ---- numbers
-- what stands in s at i as a digit, 10 where it is none
unfoldable pub digit_at : List ℕ → ℕ → ℕ
digit_at s i = cond (is_digit (byte_at s i)) (byte_at s i - 48) 10

-- a number read, and the index past it; the value 0: there is none
abbrev pub taken : ℕ → ℕ → Taken
taken value next = record { value = value; next = next }

-- the decimal number of at most n digits that stands in s at i, behind what is led
unfoldable pub short_from : ℕ → List ℕ → ℕ → ℕ → Taken
short_from zero s i led = taken led i
short_from (suc n) s i led = cond (ltb 9 (digit_at s i)) (taken led i) (short_from n s (i + 1) (led * 10 + digit_at s i))

-- "no leading zero": a number of one to three digits, the first not 0
unfoldable pub short_at : List ℕ → ℕ → Taken
short_at s i = cond (eqb (digit_at s i) 0) (taken 0 i) (short_from 3 s i 0)

-- "a repeat count 1 to 99 (no leading zero, may be absent)": 1 where there is no digit. That it is not 0 and at most 99 is asked in `joined`
unfoldable pub count_at : List ℕ → ℕ → Taken
count_at s i = cond (ltb 9 (digit_at s i)) (taken 1 i) (short_at s i)

-- ---- primitives: the letter's byte and 256 times the size, 0 where none is written; the code 0: there is no primitive
-- A, I, R or B
unfoldable pub is_letter : ℕ → Bool
is_letter b = eqb b 65 || (eqb b 73 || (eqb b 82 || eqb b 66))

-- a size that is read, and its closing bracket
unfoldable pub closed : List ℕ → ℕ → Taken → Taken
closed s letter size =
    cond (leb 1 size.value && eqb (byte_at s size.next) 41) (taken (letter + 256 * size.value) (size.next + 1)) (taken 0 0)

-- a letter, with a bracketed size or without
unfoldable pub sized_at : List ℕ → ℕ → Taken
sized_at s i = cond (eqb (byte_at s (i + 1)) 40) (closed s (byte_at s i) (short_at s (i + 2))) (taken (byte_at s i) (i + 1))

-- the digits 1 to 9
unfoldable pub counts : ℕ → Bool
counts d = leb 1 d && leb d 9

-- b and two digits, each 1 to 9
unfoldable pub binary_at : List ℕ → ℕ → Taken
binary_at s i =
    cond (counts (digit_at s (i + 1)) && counts (digit_at s (i + 2)))
    (taken (98 + 256 * (digit_at s (i + 1) * 10 + digit_at s (i + 2))) (i + 3))
    (taken 0 0)

-- the primitive that stands in s at i
unfoldable pub primitive_at : List ℕ → ℕ → Taken
primitive_at s i = cond (eqb (byte_at s i) 98) (binary_at s i) (cond (is_letter (byte_at s i)) (sized_at s i) (taken 0 0))

-- ---- lists
-- primitives written out, and the index past them; the end 0: there is no good list
pub record Form : Type 0 where
  pub items : List ℕ
  pub end : ℕ

abbrev pub form : List ℕ → ℕ → Form
form items end = record { items = items; end = end }

abbrev pub broken : Form
broken = form [] 0

-- a primitive is a list of one
unfoldable pub single : Taken → Form
single p = cond (eqb p.value 0) broken (form (p.value ∷ []) p.next)

unfoldable pub repeated : ℕ → List ℕ → List ℕ
repeated zero xs = []
repeated (suc k) xs = xs ++ repeated k xs

-- "either with a repeat count 1 to 99", "at most 32 primitives when written out": an item behind what is led, k times
unfoldable pub joined : List ℕ → ℕ → Form → Form
joined led k part =
    cond (eqb part.end 0) broken
    (cond (leb 1 k && (leb k 99 && leb (length led + k * length part.items) 32)) (form (led ++ repeated k part.items) part.end) broken)

-- "bracketed and comma-parted": what follows an item is the closing bracket, or a comma and further items
unfoldable pub followed : (ℕ → List ℕ → Form) → List ℕ → Form → Form
followed further s led =
    cond (eqb led.end 0) broken
    (cond (eqb (byte_at s led.end) 41) (form led.items (led.end + 1))
    (cond (eqb (byte_at s led.end) 44) (further (led.end + 1) led.items) broken))

-- "an item is a primitive or a bracketed list again": what stands in s at i, given the list that would start there
unfoldable pub item_at : Form → List ℕ → ℕ → Form
item_at inner s i = cond (eqb (byte_at s i) 40) inner (single (primitive_at s i))

-- at most n items from i on, behind what is led, up to the closing bracket; `inner` says what list starts at an index
unfoldable pub items_from : (List ℕ → ℕ → Form) → ℕ → List ℕ → ℕ → List ℕ → Form
items_from inner zero s i led = broken
items_from inner (suc n) s i led =
    followed (items_from inner n s) s (joined led (count_at s i).value (item_at (inner s (count_at s i).next) s (count_at s i).next))

-- "At most 4 levels of brackets": the list that starts in s at i, with so many levels left. Each item has a primitive, so more than 32 items are never good
unfoldable pub list_at : ℕ → List ℕ → ℕ → Form
list_at zero s i = broken
list_at (suc levels) s i = cond (eqb (byte_at s i) 40) (items_from (list_at levels) 32 s (i + 1) []) broken

-- the format list that starts in s at i, written out
unfoldable pub written_at : List ℕ → ℕ → Form
written_at s i = list_at 4 s i
