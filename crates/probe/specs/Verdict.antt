-- The verdict on a file, as one number. It serves the proofs, and nothing here need be believed. Assumes nothing.
use Rattle.std.specs.Prelude.{ℕ, ◌+◌, ◌*◌, Result, Ok, Err}

-- even: so many records; odd: the first bad one
unfoldable pub verdict_of : Result ℕ ℕ → ℕ
verdict_of (Ok n) = 2 * n
verdict_of (Err k) = 2 * k + 1
