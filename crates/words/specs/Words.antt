-- 64-bit words in a lent area of bytes: word i stands in the bytes 8 * i to 8 * i + 7. It serves the proofs, and nothing here need be believed.
-- Assumes nothing.
use Rattle.std.specs.Prelude.{ℕ, zero, suc, ◌*◌, ◌/◌, List, [], ◌∷◌, length}
use Rattle.std.proofs.lemmas.List.Edits.{sets}
use Rattle.octets.specs.Number.{num_at, bytes_of}

-- "Numbers are low byte first": the word of s at i
abbrev pub word_at : List ℕ → ℕ → ℕ
word_at s i = num_at s (8 * i) 8

-- the n words of s from word i on
unfoldable pub words_in : List ℕ → ℕ → ℕ → List ℕ
words_in s i zero = []
words_in s i (suc n) = word_at s i ∷ words_in s (suc i) n

-- all whole words of s
abbrev pub words_of : List ℕ → List ℕ
words_of s = words_in s 0 (length s / 8)

-- s with w written as its word i, and all other bytes as they were
abbrev pub put_at : List ℕ → ℕ → ℕ → List ℕ
put_at s i w = sets s (8 * i) (bytes_of 8 w)
