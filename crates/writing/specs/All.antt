-- The items of a cell in held form, in the order of their words, and their sizes. This serves the code and its proofs, and nothing here need be
-- believed: what is promised of a cell is its held form by the definitions of the crate `held`. Assumes nothing.
use Rattle.std.specs.Prelude.{ℕ, ◌+◌, ◌*◌, ◌≤◌, ◌<◌, max, true, List, [], ◌∷◌, ◌≡◌, length}
use Rattle.words.specs.Words.{word_at, words_in}
use Rattle.items.specs.Word.{word_offset}
use Rattle.names.specs.NameWords.{items_at}
use Rattle.records.specs.Written.{size_of, records_bytes}
use Rattle.items.specs.Item.{item_at}
use Rattle.itemfields.specs.Fields.{item_pieces}
use Rattle.held.specs.Held.{items_pieces}
use Rattle.itemrows.specs.Plain.{Writable, ItemSized}
use Rattle.asheld.specs.Held.{Same}
use Rattle.writing.specs.declared.all.Sizes.{Sizes}
use Rattle.writing.specs.declared.all.Measured.{Measured}
use Rattle.writing.specs.declared.item.Known.{Known}

-- their records, the first with the running number n
unfoldable pub written_from : ℕ → List ℕ → List ℕ → List ℕ
written_from n s ws = records_bytes (items_pieces n (items_at s ws))

-- how long the longest of these records is
unfoldable pub most_of : ℕ → List ℕ → List ℕ → ℕ
most_of n s [] = 0
most_of n s (w ∷ ws) = max (size_of (item_pieces n (item_at s (word_offset w)))) (most_of (n + 1) s ws)

-- how long the record of the item at `at` is, and whether it is the held form's, but for its running number
pub record ItemKnown (s : List ℕ) (at : ℕ) (r : Known) : Type 0 where
  pub sized : ItemSized s at r.size
  pub same : r.same ≡ true → Same s at

-- the first m words of the work area are those of items that can be copied
pub record Words (s : List ℕ) (m : ℕ) (work : List ℕ) : Type 0 where
  pub few : m ≤ 65536
  pub room : 8 * m ≤ length work
  pub each : (k : ℕ) → k < m → Writable s (word_offset (word_at work k))

-- the sizes of these records together and of the longest, the first with the running number 3: record 0, DSID and DSPM stand before it
pub record AllSized (s ws : List ℕ) (r : Sizes) : Type 0 where
  pub sum_is : r.sum ≡ length (written_from 3 s ws)
  pub most_is : r.most ≡ most_of 3 s ws
  pub sum_few : r.sum ≤ 85196800000

-- the records of the first m words are the held form's, but for their running numbers
pub record AllSame (s : List ℕ) (m : ℕ) (work : List ℕ) : Type 0 where
  pub each : (k : ℕ) → k < m → Same s (word_offset (word_at work k))

pub record AllMeasured (s : List ℕ) (m : ℕ) (work : List ℕ) (r : Measured) : Type 0 where
  pub sized : AllSized s (words_in work 0 m) r.sizes
  pub same : r.same ≡ true → AllSame s m work
