-- Laws of DSPM: that its subfields fill it. Assumes nothing.
use Prim.Native.Nat.{ℕ, ◌+◌}
use mathlib.Core.Bool.{true}
use mathlib.Core.List.{List}
use mathlib.Core.Path.{◌≡◌}
use native.Mathlib.Omega.{arith}
use lib.ListN.{length}
use borrow.Author.Tests.{eqb-true, eq-eqb}
use Rattle.headvalues.specs.Text.{text_end}
use Rattle.headvalues.specs.Dspm.{dspm_laid}
use Rattle.headvalues.specs.Premises.{DspmLaid}
use Rattle.headvalues.proofs.TextLaws.{end_from}

pub dspm_is_laid : (s : List ℕ) → dspm_laid s ≡ true → DspmLaid s
unfolding dspm_laid
dspm_is_laid s h =
    let f = eqb-true (text_end s 24 + 1) (length s) h in
    let g = end_from s 24 in
    record { long = omega arith; full = f }

pub laid_dspm : (s : List ℕ) → DspmLaid s → dspm_laid s ≡ true
unfolding dspm_laid
laid_dspm s h = eq-eqb (text_end s 24 + 1) (length s) h.full
