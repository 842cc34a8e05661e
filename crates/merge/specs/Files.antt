-- A cell and an update as they come to the weaving. It serves the proofs, and nothing here need be believed. Assumes nothing.
use Rattle.std.specs.Prelude.{ℕ, ◌+◌, ◌-◌, ◌*◌, ◌≤◌, ◌<◌, Bool, true, false, List, ◌≡◌, length, get_or}
use Rattle.iso8211.specs.File.{record_at}
use Rattle.words.specs.Words.{words_in}
use Rattle.words.specs.Order.{sorted}
use Rattle.items.specs.Identity.{ruin_at}
use Rattle.items.specs.Word.{name_of, word_offset, marked}
use Rattle.names.specs.NameWords.{name_words}
use Rattle.names.specs.Premises.{Readable}
use Rattle.names.specs.Names.{first_item, twice_of}
use Rattle.merge.specs.Update.{Change}

-- a cell a of n records and an update b of m, neither with a name twice; in the second half of the work area stand the words of the cell, then
-- those of the update, each in held order
pub record Brought (a : List ℕ) (n : ℕ) (b : List ℕ) (m : ℕ) (work : List ℕ) : Type 0 where
  pub cell_read : Readable false a n
  pub cell_once : twice_of false a n ≡ record { index = 0; offset = 0 }
  pub update_read : Readable true b m
  pub update_once : twice_of true b m ≡ record { index = 0; offset = 0 }
  pub room : 16 * (n - 3 + (m - 2)) ≤ length work
  pub held : words_in work (n - 3 + (m - 2)) (n - 3) ≡ sorted (name_words false a n)
  pub come : words_in work (n - 3 + (m - 2) + (n - 3)) (m - 2) ≡ sorted (name_words true b m)

-- the records of the update b by their words. A is what words stand for: `one` is that of a word of the cell, or of a word of the update with
-- its mark set; `edit` is what the record of a word makes of what is held
abbrev pub change_by : {A : Type 0} → List ℕ → (A → ℕ) → (ℕ → A) → (ℕ → A → A) → Change A ℕ
change_by b key one edit = record {
  key = key;
  name = name_of;
  ruin = λ (w : ℕ). ruin_at b (word_offset w);
  made = λ (w : ℕ). one (marked w);
  edit = edit;
}

-- a vector's or a feature's record of a file of n records starts at `at`: which record it is, and which of the words in held order
pub record RecordOf (update : Bool) (s : List ℕ) (n at : ℕ) : Type 0 where
  pub index : ℕ
  pub low : first_item update ≤ index
  pub high : index < n
  pub is : at ≡ record_at s index
  pub word : ℕ
  pub there : word < length (sorted (name_words update s n))
  pub stands : at ≡ word_offset (get_or (sorted (name_words update s n)) word 0)
