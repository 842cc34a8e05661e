-- What Judge answers to the small cells, computed: it accepts the first, and wants its work area. Assumes nothing.
use Prim.Native.Nat.{ℕ, ◌≤◌}
use mathlib.Core.List.{[], ◌∷◌}
use mathlib.Core.Path.{◌≡◌, refl}
use Rattle.answers.specs.Answer.{answer}
use Rattle.judging.specs.Judge.{judge_of}
use Rattle.answers.specs.Sixteen.{answer_area}
use Rattle.witness.specs.SmallCell.{small}
use Rattle.witness.proofs.Computing.{judging, small_files}
use Rattle.witness.proofs.WorkLaws.{judge_more}

-- ---- accepted: seven records want 112 bytes of work
small_here : judge_of small 112 ≡ answer 0 0 0 0 0
unfolding judging small_files
small_here = refl

pub small_judged : (w : ℕ) → 112 ≤ w → judge_of small w ≡ answer 0 0 0 0 0
small_judged w work = judge_more small 112 w work small_here

-- what a host program in C finds in its answer area of 16 bytes, which was all ones
pub small_told : answer_area (1 ∷ 1 ∷ 1 ∷ 1 ∷ 1 ∷ 1 ∷ 1 ∷ 1 ∷ 1 ∷ 1 ∷ 1 ∷ 1 ∷ 1 ∷ 1 ∷ 1 ∷ 1 ∷ []) (judge_of small 112)
    ≡ 0 ∷ 0 ∷ 0 ∷ 0 ∷ 0 ∷ 0 ∷ 0 ∷ 0 ∷ 0 ∷ 0 ∷ 0 ∷ 0 ∷ 0 ∷ 0 ∷ 0 ∷ 0 ∷ []
unfolding judging
small_told = rw small_here

-- a byte of work too few: 3, with the bytes needed
pub small_work : judge_of small 111 ≡ answer 3 0 0 112 0
unfolding judging small_files
small_work = refl
