-- A file: records, one after the other, and nothing after. Assumes nothing.
use Rattle.std.specs.Prelude.{ℕ, zero, suc, ◌+◌, cond, List, length, eqb, Result, Ok, Err}
use Rattle.iso8211.specs.Record.{record_good, end_of}

-- the verdict from record k, at `at`, on; a record takes a byte at least, so fuel for each byte left never ends first (`fuel_same`)
unfoldable pub framed_from : ℕ → List ℕ → ℕ → ℕ → Result ℕ ℕ
framed_from zero s at k = Err k
framed_from (suc f) s at k =
    cond (record_good (eqb k 0) s at) (cond (eqb (end_of s at) (length s)) (Ok (k + 1)) (framed_from f s (end_of s at) (k + 1))) (Err k)

-- "A file is one or more records and nothing after; length 0 is Frame": how many records, or which is the first bad one
unfoldable pub frame_of : List ℕ → Result ℕ ℕ
frame_of s = framed_from (suc (length s)) s 0 0

-- where record k starts
unfoldable pub record_at : List ℕ → ℕ → ℕ
record_at s zero = 0
record_at s (suc k) = end_of s (record_at s k)
