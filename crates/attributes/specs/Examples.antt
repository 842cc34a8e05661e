-- Worked examples, computed. Assumes nothing.
use Rattle.std.specs.Prelude.{ℕ, true, false, List, [], ◌∷◌, ◌≡◌, refl}
use Rattle.octets.specs.Lists.{is_in}
use Rattle.octets.specs.Number.{num_at}
use Rattle.entries.specs.Entries.{text_from, text_len, entry_len, entries_from, entries_of}
use Rattle.entries.specs.Rules.{through}
use Rattle.headvalues.specs.Text.{is_text, text_good}
use Rattle.attributes.specs.Attributes.{label_of, value_of, is_removal, value_good, attributes_from, attributes_fault, met_label, met_after, rind_good, comment_of, ffpt_from, ffpt_fault}

-- ATTL 5 with the value "A", then ATTL 258 with an empty one
unfoldable two : List ℕ
two = 5 ∷ 0 ∷ 65 ∷ 31 ∷ 2 ∷ 1 ∷ 31 ∷ []

-- ATTL 5 with the value 7F
unfoldable gone : List ℕ
gone = 5 ∷ 0 ∷ 127 ∷ 31 ∷ []

-- LNAM, RIND, COMT "A"
unfoldable pointed : ℕ → List ℕ
pointed rind = 1 ∷ 0 ∷ 2 ∷ 0 ∷ 0 ∷ 0 ∷ 3 ∷ 0 ∷ rind ∷ 65 ∷ 31 ∷ []

-- labels that the list had not met, and one that it had, in an earlier field, at the second entry
labels : (attributes_fault false false (7 ∷ []) two ≡ 0) × (attributes_fault false false (258 ∷ []) two ≡ 5) × (met_after (7 ∷ []) two ≡ 258 ∷ 5 ∷ 7 ∷ [])
unfolding num_at text_from text_len entry_len entries_from entries_of through is_in is_text text_good label_of value_of is_removal value_good attributes_from attributes_fault met_label met_after
    two
labels = (refl, refl, refl)

-- 7F alone: in an update only
removal : (attributes_fault true false [] gone ≡ 0) × (attributes_fault false true [] gone ≡ 3)
unfolding num_at text_from text_len entry_len entries_from entries_of is_in is_text text_good label_of value_of is_removal value_good attributes_from attributes_fault gone
removal = (refl, refl)

-- RIND stands at 8
rind : (ffpt_fault (pointed 2) ≡ 0) × (ffpt_fault (pointed 4) ≡ 9)
unfolding num_at text_from text_len entry_len entries_from entries_of is_text text_good rind_good comment_of ffpt_from ffpt_fault pointed
rind = (refl, refl)
