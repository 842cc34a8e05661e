-- What is known of an opened file and of the work area that is lent with it, and what reading leaves there. It serves the proofs, and nothing here need be
-- believed. Assumes nothing.
use Rattle.std.specs.Prelude.{ℕ, suc, ◌+◌, ◌-◌, ◌*◌, ◌≤◌, true, false, List, ◌≡◌, length, Ok, Result, Err}
use Rattle.answers.specs.Codes.{most_bytes, work_each}
use Rattle.answers.specs.declared.answer.Answer.{Answer}
use Rattle.iso8211.specs.Record.{record_good, end_of}
use Rattle.iso8211.specs.File.{framed_from, frame_of, record_at}
use Rattle.words.specs.Words.{words_in}
use Rattle.words.specs.Order.{sorted}
use Rattle.names.specs.NameWords.{name_words}
use Rattle.reader.specs.Reader.{front_of}

-- a file that is not too long and whose record 0, which ends at x, is good
pub record StartedAt (s : List ℕ) (x : ℕ) : Type 0 where
  pub short : length s ≤ most_bytes
  pub good : record_good true s 0 ≡ true
  pub ends : x ≡ end_of s 0

-- r is where record 1 starts, or the refusal of the file
pub record StartTold (file : ℕ) (s : List ℕ) (r : Result ℕ Answer) : Type 0 where
  pub starts : (x : ℕ) → r ≡ Ok x → StartedAt s x
  pub refused : (a : Answer) → r ≡ Err a → front_of file s ≡ Err a

-- the records before record k, which starts at `at`, are good: k records are all, or the verdict from there is that of the file
pub record FramedTo (s : List ℕ) (k at : ℕ) : Type 0 where
  pub low : 1 ≤ k
  pub below : k ≤ at
  pub fits : at ≤ length s
  pub place : at ≡ record_at s k
  pub done : at ≡ length s → frame_of s ≡ Ok k
  pub more : (at ≡ length s → ⊥) → frame_of s ≡ framed_from (suc (length s - k)) s at k

-- a framed file of n records that is not too long
pub record FileOpened (s : List ℕ) (n : ℕ) : Type 0 where
  pub framed : frame_of s ≡ Ok n
  pub short : length s ≤ most_bytes

-- and 8 bytes of work for each: as many as its names want
pub record NamesLent (s : List ℕ) (n : ℕ) (work : List ℕ) : Type 0 where
  pub framed : frame_of s ≡ Ok n
  pub short : length s ≤ most_bytes
  pub room : 8 * n ≤ length work

-- a framed cell of n records, a framed update of m, and 16 bytes of work for each record of the two
pub record BothOpened (cell : List ℕ) (n : ℕ) (update : List ℕ) (m : ℕ) (work : List ℕ) : Type 0 where
  pub held : FileOpened cell n
  pub come : FileOpened update m
  pub room : work_each * (n + m) ≤ length work

-- ---- the names in the work area
-- the first n - 2 words of the work area are those of the update's records, by name ascending
pub record ComeIn (s : List ℕ) (n : ℕ) (work : List ℕ) : Type 0 where
  pub words : words_in work 0 (n - 2) ≡ sorted (name_words true s n)

-- The work area once both files are read: room for as many words as the two have items, then the words of the cell's items, then those of the
-- update's records, each by name ascending
pub record BothIn (cell : List ℕ) (n : ℕ) (update : List ℕ) (m : ℕ) (work : List ℕ) : Type 0 where
  pub held : words_in work (n - 3 + (m - 2)) (n - 3) ≡ sorted (name_words false cell n)
  pub come : words_in work (n - 3 + (m - 2) + (n - 3)) (m - 2) ≡ sorted (name_words true update m)
