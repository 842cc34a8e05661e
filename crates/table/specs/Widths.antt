-- What document 01's table says twice: the shape of a row's group follows from its formats and labels, and the offset of a subfield is the
-- sum of the widths before it. Assumes nothing.
use Rattle.std.specs.Prelude.{ℕ, ◌+◌, ◌-◌, ◌*◌, ◌/◌, ◌%◌, Bool, true, false, cond, not, ◌&&◌, ◌||◌, List, [], ◌∷◌, ◌++◌, length, get_or, replicate, eqb, leb}
use Prim.Native.String.{String}
use Rattle.table.specs.Text.{bytes}
use Rattle.table.specs.Table.{Row, row_of, as_number}

-- ---- a row's formats written out. They have no brackets but the outer ones and those of a size, so they are read byte by byte: the count
-- so far (0: none is written), the letter (0: not yet) and the size behind it
-- a primitive is its letter and 256 times its size, as in crates/formats
unfoldable pub written : ℕ → ℕ → ℕ → List ℕ
written count letter size = replicate (cond (eqb count 0) 1 count) (letter + 256 * size)

unfoldable pub is_digit : ℕ → Bool
is_digit b = leb 48 b && leb b 57

-- the state behind a byte, a comma being 44: one call for each byte, since both sides of a `cond` are computed
unfoldable pub count_after : ℕ → ℕ → ℕ → ℕ
count_after b count letter = cond (eqb b 44) 0 (cond (is_digit b && eqb letter 0) (count * 10 + (b - 48)) count)

unfoldable pub letter_after : ℕ → ℕ → ℕ
letter_after b letter = cond (eqb b 44) 0 (cond (leb 65 b) b letter)

unfoldable pub size_after : ℕ → ℕ → ℕ → ℕ
size_after b letter size = cond (eqb b 44 || eqb letter 0) 0 (cond (is_digit b) (size * 10 + (b - 48)) size)

unfoldable pub primitives_from : List ℕ → ℕ → ℕ → ℕ → List ℕ
primitives_from [] count letter size = written count letter size
primitives_from (b ∷ bs) count letter size =
    cond (eqb b 44) (written count letter size) [] ++ primitives_from bs (count_after b count letter) (letter_after b letter) (size_after b letter size)

abbrev pub primitives_of : Row → List ℕ
primitives_of r = primitives_from (bytes r.formats) 0 0 0

-- a text: A without a size
unfoldable pub is_text : ℕ → Bool
is_text p = eqb p 65

-- how many bytes a primitive has: b11 one, b12 two, b14 and b24 four; B(40) has forty bits; A(8) and R(4) have their size in bytes
unfoldable pub width_of : ℕ → ℕ
width_of p = cond (eqb (p % 256) 98) (p / 256 % 10) (cond (eqb (p % 256) 66) (p / 256 / 8) (p / 256))

-- the bytes before the first text, all where there is none
unfoldable pub fixed_of : List ℕ → ℕ
fixed_of [] = 0
fixed_of (p ∷ ps) = cond (is_text p) 0 (width_of p + fixed_of ps)

-- one of them is a text
unfoldable pub text_of : List ℕ → Bool
text_of [] = false
text_of (p ∷ ps) = is_text p || text_of ps

-- ---- labels
-- "labels joined by "!" with "*" before the first if the group repeats"
unfoldable pub list_of : List ℕ → Bool
list_of labels = eqb (get_or labels 0 0) 42

-- the labels, each its four bytes as a number; `led` is what is read of the first
unfoldable pub labels_from : List ℕ → ℕ → List ℕ
labels_from [] led = led ∷ []
labels_from (b ∷ bs) led = cond (eqb b 33) (led ∷ []) [] ++ labels_from bs (cond (eqb b 33) 0 (cond (eqb b 42) led (led * 256 + b)))

abbrev pub labels_of : Row → List ℕ
labels_of r = labels_from (bytes r.labels) 0

-- ---- the first claim: fixed bytes, text mark and list mark of a row, and a label for each primitive
unfoldable pub same : Bool → Bool → Bool
same a b = (a && b) || (not a && not b)

unfoldable pub shape_follows : Row → Bool
shape_follows r =
    eqb (fixed_of (primitives_of r)) r.fixed
    && (same (text_of (primitives_of r)) r.text
    && (same (list_of (bytes r.labels)) r.list
    && eqb (length (labels_of r)) (length (primitives_of r))))

unfoldable pub shapes_follow : List Row → Bool
shapes_follow [] = true
shapes_follow (r ∷ rs) = shape_follows r && shapes_follow rs

-- ---- the second: the offsets
-- the widths of the primitives before this label
unfoldable pub offset_in : List ℕ → List ℕ → ℕ → ℕ
offset_in [] ms l = 0
offset_in (p ∷ ps) [] l = 0
offset_in (p ∷ ps) (m ∷ ms) l = cond (eqb m l) 0 (width_of p + offset_in ps ms l)

-- a subfield of the field of kind k: its label, and its offset
pub record Subfield : Type 0 where
  pub kind : ℕ
  pub label : String
  pub offset : ℕ

abbrev pub subfield : ℕ → String → ℕ → Subfield
subfield k l n = record { kind = k; label = l; offset = n }

unfoldable pub offset_follows : Subfield → Bool
offset_follows f = eqb (offset_in (primitives_of (row_of f.kind)) (labels_of (row_of f.kind)) (as_number (bytes f.label) 0)) f.offset

unfoldable pub offsets_follow : List Subfield → Bool
offsets_follow [] = true
offsets_follow (f ∷ fs) = offset_follows f && offsets_follow fs
