-- A field of record 0 and its parts. Assumes nothing.
use Rattle.std.specs.Prelude.{ℕ, zero, suc, ◌+◌, ◌-◌, cond, List, length, eqb, ltb}
use Rattle.octets.specs.Number.{byte_at}
use Rattle.fieldparts.specs.declared.descriptive.Parts.{Parts}

-- the first 1F among the n bytes of s from i on; the index past them where there is none
unfoldable pub separator_in : ℕ → List ℕ → ℕ → ℕ
separator_in zero s i = i
separator_in (suc n) s i = cond (eqb (byte_at s i) 31) i (separator_in n s (i + 1))

-- the first 1F of s at or after i; not within s where there is none
unfoldable pub separator_at : List ℕ → ℕ → ℕ
separator_at s i = separator_in (length s - i) s i

-- where the first 1F is at `name` and the second at `labels`, before the field's closing 1E; both 0: there are no such
unfoldable pub parts_at : List ℕ → ℕ → ℕ → Parts
parts_at s name labels = cond (ltb (labels + 1) (length s)) (record { name = name; labels = labels }) (record { name = 0; labels = 0 })

-- "A field is nine bytes not judged, a name, 1F, labels .., 1F, formats, 1E": the places of its two 1F
unfoldable pub parts_of : List ℕ → Parts
parts_of s = parts_at s (separator_at s 9) (separator_at s (separator_at s 9 + 1))
