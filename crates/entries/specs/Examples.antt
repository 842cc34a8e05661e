-- Lists cut by their shapes, computed. Assumes nothing.
use Rattle.std.specs.Prelude.{true, false, ◌≡◌, refl}
use mathlib.Core.List.{List, [], ◌∷◌}
use Rattle.octets.specs.Number.{num_at}
use Rattle.entries.specs.Entries.{text_from, text_len, entry_len, entries_from, entries_of, extent_of, whole_good}
use Rattle.entries.specs.Premises.{place}

-- "b12,A": two attributes, the second of an empty value
attributes : entries_of (record { fixed = 2; unit = 1 }) (75 ∷ 0 ∷ 49 ∷ 31 ∷ 31 ∷ 0 ∷ 31 ∷ []) ≡ (75 ∷ 0 ∷ 49 ∷ 31 ∷ []) ∷ (31 ∷ 0 ∷ 31 ∷ []) ∷ []
unfolding num_at text_from text_len entry_len entries_from entries_of
attributes = refl

-- the same with units of two bytes: a unit 1F 01 is no terminator
wide_attributes : entries_of (record { fixed = 2; unit = 2 }) (75 ∷ 0 ∷ 31 ∷ 1 ∷ 31 ∷ 0 ∷ []) ≡ (75 ∷ 0 ∷ 31 ∷ 1 ∷ 31 ∷ 0 ∷ []) ∷ []
unfolding num_at text_from text_len entry_len entries_from entries_of
wide_attributes = refl

-- the text of the second attribute has no 1F, so the list is not "filled by its subfields"
unended : whole_good (record { fixed = 2; unit = 1 }) (75 ∷ 0 ∷ 31 ∷ 31 ∷ 0 ∷ 50 ∷ []) ≡ false
unfolding num_at text_from text_len entry_len entries_from entries_of mathlib.Core.List.flatten whole_good
unended = refl

-- "2b24": a pair and a byte too many; the second pair would start at 8; no pair at all is no list
pairs : extent_of (record { fixed = 8; unit = 0 }) (1 ∷ 2 ∷ 3 ∷ 4 ∷ 5 ∷ 6 ∷ 7 ∷ 8 ∷ 9 ∷ []) ≡ record { count = 1; end = 8 }
unfolding entry_len entries_from entries_of mathlib.Core.List.flatten
pairs = refl

second_pair : place (record { fixed = 8; unit = 0 }) 1 (1 ∷ 2 ∷ 3 ∷ 4 ∷ 5 ∷ 6 ∷ 7 ∷ 8 ∷ 9 ∷ []) ≡ 8
unfolding entry_len entries_from entries_of mathlib.Core.List.flatten place
second_pair = refl

no_pair : whole_good (record { fixed = 8; unit = 0 }) [] ≡ false
unfolding entries_from entries_of mathlib.Core.List.flatten whole_good
no_pair = refl

one_pair : whole_good (record { fixed = 8; unit = 0 }) (1 ∷ 2 ∷ 3 ∷ 4 ∷ 5 ∷ 6 ∷ 7 ∷ 8 ∷ []) ≡ true
unfolding entry_len entries_from entries_of mathlib.Core.List.flatten whole_good
one_pair = refl
