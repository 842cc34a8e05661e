-- The words of a file's names, as the code keeps them in the work area. They serve the proofs, and nothing here need be believed. Assumes nothing.
use Rattle.std.specs.Prelude.{ℕ, zero, suc, ◌+◌, ◌-◌, Bool, cond, List, [], ◌∷◌}
use Rattle.octets.specs.Lists.{is_in}
use Rattle.iso8211.specs.Record.{end_of}
use Rattle.iso8211.specs.File.{record_at}
use Rattle.items.specs.Identity.{word_for}
use Rattle.items.specs.Word.{name_of, word_offset}
use Rattle.items.specs.Item.{Item, item_at}
use Rattle.names.specs.Names.{first_item}
use Rattle.names.specs.declared.twice.Repeat.{Repeat}

-- the words of n records from the one at `at` on
unfoldable pub words_from : ℕ → List ℕ → ℕ → List ℕ
words_from zero s at = []
words_from (suc n) s at = word_for s at ∷ words_from n s (end_of s at)

-- those of all vectors and features of a file of n records, in the file's order
unfoldable pub name_words : Bool → List ℕ → ℕ → List ℕ
name_words update s n = words_from (n - first_item update) s (record_at s (first_item update))

-- the first name that is met twice, among words
unfoldable pub word_twice : ℕ → List ℕ → List ℕ → Repeat
word_twice k seen [] = record { index = 0; offset = 0 }
word_twice k seen (w ∷ ws) = cond (is_in (name_of w) seen) (record { index = k; offset = word_offset w }) (word_twice (k + 1) (name_of w ∷ seen) ws)

-- the items at the places of these words
unfoldable pub items_at : List ℕ → List ℕ → List Item
items_at s [] = []
items_at s (w ∷ ws) = item_at s (word_offset w) ∷ items_at s ws
