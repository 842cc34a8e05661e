-- The verdict as one number: it fits, since a file has no more records than bytes. Assumes nothing.
use Prim.Native.Nat.{ℕ, ◌+◌, ◌*◌, ◌≤◌}
use mathlib.Core.List.{List}
use mathlib.Core.Path.{◌≡◌, sym, ◌∙◌}
use lib.ListN.{length}
use Rattle.std.specs.Prelude.{Result, Ok, Err}
use Rattle.iso8211.specs.File.{frame_of}
use Rattle.iso8211.proofs.Promise.{records_few, broken_few}
use Rattle.probe.specs.Verdict.{verdict_of}

module _ (s : List ℕ) (r : Result ℕ ℕ) (n : ℕ) (is : r ≡ frame_of s) where
  pub even_few : r ≡ Ok n → n ≤ length s
  even_few e = records_few s n (sym is ∙ e)

  pub even : r ≡ Ok n → 2 * n ≡ verdict_of (frame_of s)
  unfolding verdict_of
  even e = rw (← is, e)

  pub odd_few : r ≡ Err n → n ≤ length s
  odd_few e = broken_few s n (sym is ∙ e)

  pub odd : r ≡ Err n → 2 * n + 1 ≡ verdict_of (frame_of s)
  unfolding verdict_of
  odd e = rw (← is, e)
