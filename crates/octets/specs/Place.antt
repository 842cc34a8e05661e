-- A place that may be none. It serves the proofs, and nothing here need be believed. Assumes nothing.
use Rattle.std.specs.Prelude.{ℕ, zero, suc, Option, Some, None}

-- how the code tells a place that the definitions give as a number, which is 0 where there is none: None at 0, else the place itself
unfoldable pub some_place : ℕ → Option ℕ
some_place zero = None
some_place (suc n) = Some (suc n)
