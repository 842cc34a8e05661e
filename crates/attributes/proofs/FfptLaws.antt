-- The walk over a field of FFPT, turn by turn, and the reading of one entry. Assumes nothing.
use Prim.Native.Nat.{ℕ, ◌+◌, ◌-◌, ◌≤◌, ◌<◌}
use mathlib.Core.Bool.{Bool, true, false, not, cond}
use mathlib.Core.List.{List}
use mathlib.Core.Path.{◌≡◌, refl, ◌∙◌}
use native.Mathlib.Omega.{arith}
use lib.ListN.{length, take, drop}
use lib.Dec.{leb}
use borrow.Author.Tests.{lt-leb, le-leb, not-true, not-false}
use Rattle.octets.proofs.ListLaws.{part_byte, part_long}
use Rattle.octets.specs.Number.{byte_at}
use Rattle.entries.specs.Entries.{entry_len, entries_of}
use Rattle.entries.proofs.WalkLaws.{walk_end, walk_more}
use Rattle.headvalues.specs.Text.{text_good}
use Rattle.std.specs.Prelude.{Ok, Err}
use Rattle.values.specs.Fault.{told}
use Rattle.values.proofs.FaultLaws.{told_ok, told_err}
use Rattle.attributes.specs.Attributes.{pointer, rind_good, comment_of, ffpt_from, ffpt_fault}
use Rattle.attributes.proofs.PartLaws.{part_text, pointer_long}

-- ---- one entry: the n bytes at `at` of c
module _ (c : List ℕ) (at n : ℕ) (long : 10 ≤ n) where
  module _ (b : ℕ) (told : b ≡ byte_at c (at + 8)) where
    pub rind_low : b < 2 → false ≡ rind_good (take n (drop at c))
    unfolding rind_good
    rind_low h = rw (part_byte c at n 8 (omega arith), ← told, lt-leb 2 b h)

    pub rind_rest : 2 ≤ b → leb b 3 ≡ rind_good (take n (drop at c))
    unfolding rind_good
    rind_rest h = rw (part_byte c at n 8 (omega arith), ← told, le-leb 2 b h)

  pub comment_read : (r : Bool) → at + n ≤ length c → r ≡ text_good false (take (at + n - 1 - (at + 9)) (drop (at + 9) c))
      → r ≡ text_good false (comment_of (take n (drop at c)))
  unfolding comment_of
  comment_read r fit told = rw (part_text c at n 9 long fit) told

-- ---- the walk: the fault from the start is the fault from here
pub record Walked (c : List ℕ) (at : ℕ) : Type 0 where
  pub here : ffpt_fault c ≡ ffpt_from at (entries_of pointer (drop at c))

pub walked_start : (c : List ℕ) → Walked c 0
unfolding ffpt_fault
walked_start c = record { here = refl }

-- ---- the turns: n is the length of the entry at `at` as it was measured
module _ {c : List ℕ} {at : ℕ} (w : Walked c at) (n : ℕ) (size : n ≡ entry_len pointer (drop at c)) where
  pub walked_end : n ≡ 0 → Ok tt ≡ told (ffpt_fault c)
  unfolding ffpt_from
  walked_end h = told_ok (w.here ∙ rw (walk_end pointer c at n size h))

  module _ (some : n ≡ 0 → ⊥) (fit : at + n ≤ length c) (r : Bool) (rind : r ≡ rind_good (take n (drop at c))) where
    turn : ffpt_fault c ≡ cond r (cond (text_good false (comment_of (take n (drop at c)))) (ffpt_from (at + n) (entries_of pointer (drop (at + n) c))) (at + 10)) (at + 9)
    unfolding ffpt_from
    turn = w.here ∙ rw (walk_more pointer c at n size some, part_long c at n fit, rind)

    pub walked_rind : not r ≡ true → Err (record { at = at + 8 }) ≡ told (ffpt_fault c)
    walked_rind h = told_err (turn ∙ rw (not-true r h) (omega arith))

    module _ (good : not r ≡ false) (q : Bool) (comment : q ≡ text_good false (comment_of (take n (drop at c)))) where
      pub walked_comment : not q ≡ true → Err (record { at = at + 9 }) ≡ told (ffpt_fault c)
      walked_comment h = told_err (turn ∙ rw (not-false r good, ← comment, not-true q h) (omega arith))

      pub walked_on : not q ≡ false → Walked c (at + n)
      walked_on h = record { here = turn ∙ rw (not-false r good, ← comment, not-false q h) }

pub pointer_within : (c : List ℕ) (at n k : ℕ) → n ≡ entry_len pointer (drop at c) → (n ≡ 0 → ⊥) → at + n ≤ length c → k < 10 → at + k < length c
pointer_within c at n k size some fit h = omega (arith, pointer_long (drop at c) n size some)
