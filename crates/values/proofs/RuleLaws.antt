-- Laws of the rules that several fields share. Assumes nothing.
use Prim.Native.Nat.{ℕ, ◌-◌, ◌≤◌}
use mathlib.Core.Bool.{Bool, true, false, not}
use mathlib.Core.List.{List}
use mathlib.Core.Path.{◌≡◌}
use lib.Dec.{leb}
use borrow.Author.Tests.{le-leb, leb-true}
use Rattle.octets.specs.Digits.{number_at}
use Rattle.octets.specs.Premises.{Number}
use Rattle.octets.proofs.Tests.{told_yes, all3}
use Rattle.values.specs.Rule.{within, ruin_good, digits_within}

-- ---- ruin_good
pub ruin_update : (update r : Bool) (b w : ℕ) → r ≡ within 1 3 w → w ≡ b → update ≡ true → r ≡ ruin_good update b
unfolding ruin_good
ruin_update update r b w e is told = rw (told, ← is) e

pub ruin_cell : (update r : Bool) (b w : ℕ) → r ≡ within 1 1 w → w ≡ b → update ≡ false → r ≡ ruin_good update b
unfolding ruin_good
ruin_cell update r b w e is told = rw (told, ← is) e

-- ---- digits_within
pub digits_told : (width least most i e v : ℕ) (s : List ℕ) (r : Bool) → 1 ≤ e - i → e - i ≤ width → Number s i (e - i) v → r ≡ within least most v
    → r ≡ digits_within width least most s i e
unfolding digits_within
digits_told width least most i e v s r some few is told = rw (le-leb 1 (e - i) some, le-leb (e - i) width few, ← is.is) told

-- no more digits than the width lets
pub digits_few : (width least most i e : ℕ) (s : List ℕ) (r : Bool) → r ≡ digits_within width least most s i e → not r ≡ false → e - i ≤ width
unfolding digits_within
digits_few width least most i e s r told h =
    leb-true (e - i) width (all3 (leb 1 (e - i)) (leb (e - i) width) (within least most (number_at s i (e - i))) (told_yes r (digits_within width least most s i e) told h)).1
