-- Marks keep names and places, and tell the deletes. Assumes nothing.
use Prim.Native.Nat.{ℕ, zero, suc, ◌<◌}
use mathlib.Core.Bool.{Bool, true, false, cond}
use mathlib.Core.List.{List, [], ◌∷◌}
use mathlib.Core.Path.{◌≡◌, refl, ap}
use native.Mathlib.Omega.{arith}
use lib.Dec.{eqb}
use lib.ListN.{length, get_or}
use borrow.Author.Tests.{eq-eqb}
use Rattle.items.specs.Identity.{ruin_at}
use Rattle.items.specs.Word.{name_of, word_offset, mark_of, marked_offset, marked}
use Rattle.names.specs.Premises.{Strict}
use Rattle.merge.specs.Words.{with_ruin, with_ruins, deletes}

-- ---- a word of a record that begins below the mark
pub low_mark : (w : ℕ) → word_offset w < 8388608 → mark_of w ≡ 0
low_mark w h = omega arith

pub low_offset : (w : ℕ) → word_offset w < 8388608 → marked_offset w ≡ word_offset w
low_offset w h = omega arith

-- ---- a marked word
pub set_mark : (w : ℕ) → mark_of (marked w) ≡ 1
unfolding marked
set_mark w = omega arith

pub set_offset : (w : ℕ) → marked_offset (marked w) ≡ marked_offset w
unfolding marked
set_offset w = omega arith

pub set_name : (w : ℕ) → name_of (marked w) ≡ name_of w
unfolding marked
set_name w = omega arith

pub set_again : (w : ℕ) → marked (marked w) ≡ marked w
unfolding marked
set_again w = omega arith

-- ---- the words of an update, marked where they delete
pub ruin_name : (b : List ℕ) (w : ℕ) → name_of (with_ruin b w) ≡ name_of w
unfolding with_ruin
ruin_name b w = pick (eqb (ruin_at b (word_offset w)) 2) where
  pick : (z : Bool) → name_of (cond z (marked w) w) ≡ name_of w
  pick true = set_name w
  pick false = refl

pub ruin_set : (b : List ℕ) (w : ℕ) → marked (with_ruin b w) ≡ marked w
unfolding with_ruin
ruin_set b w = pick (eqb (ruin_at b (word_offset w)) 2) where
  pick : (z : Bool) → marked (cond z (marked w) w) ≡ marked w
  pick true = set_again w
  pick false = refl

pub ruin_deletes : (b : List ℕ) (w : ℕ) → word_offset w < 8388608 → deletes (with_ruin b w) ≡ eqb (ruin_at b (word_offset w)) 2
unfolding with_ruin deletes
ruin_deletes b w h = pick (eqb (ruin_at b (word_offset w)) 2) where
  pick : (z : Bool) → eqb (mark_of (cond z (marked w) w)) 1 ≡ z
  pick true = eq-eqb (mark_of (marked w)) 1 (set_mark w)
  pick false = rw (low_mark w h)

-- what doesn't delete is as it was
pub ruin_same : (b : List ℕ) (w : ℕ) → eqb (ruin_at b (word_offset w)) 2 ≡ false → with_ruin b w ≡ w
unfolding with_ruin
ruin_same b w e = rw e

pub ruins_length : (b ws : List ℕ) → length (with_ruins b ws) ≡ length ws
unfolding with_ruins
ruins_length b [] = refl
ruins_length b (w ∷ ws) = ap suc (ruins_length b ws)

ruins_at : (b ws : List ℕ) (p : ℕ) → p < length ws → name_of (get_or (with_ruins b ws) p 0) ≡ name_of (get_or ws p 0)
unfolding with_ruins
ruins_at b [] p h = absurd (omega arith)
ruins_at b (w ∷ ws) zero h = ruin_name b w
ruins_at b (w ∷ ws) (suc p) h = ruins_at b ws p (omega arith)

pub strict_ruins : (b ws : List ℕ) → Strict ws → Strict (with_ruins b ws)
strict_ruins b ws so = record {
  up = λ p q less h.
      let long : q < length ws = rw (ruins_length b ws) at h in
      rw (ruins_at b ws p (omega arith), ruins_at b ws q long) (so.up p q less long);
}
