-- What Judge answers to the small cells with one byte changed, computed: each of the codes 2, 4 to 8 and 17 to 19. Assumes nothing.
use Prim.Native.Nat.{ℕ, ◌≤◌}
use mathlib.Core.Path.{◌≡◌, refl}
use lib.ListN.{set}
use Rattle.answers.specs.Answer.{answer}
use Rattle.judging.specs.Judge.{judge_of}
use Rattle.witness.specs.SmallCell.{small, ringed}
use Rattle.witness.proofs.Computing.{judging, small_files}
use Rattle.witness.proofs.WorkLaws.{judge_more}

-- ---- the cell with an area as it stands is accepted
ringed_here : judge_of ringed 112 ≡ answer 0 0 0 0 0
unfolding judging small_files
ringed_here = refl

pub ringed_judged : (w : ℕ) → 112 ≤ w → judge_of ringed w ≡ answer 0 0 0 0 0
ringed_judged w work = judge_more ringed 112 w work ringed_here

-- ---- one byte changed; each answer is code, file, record, number, and the byte of the file
-- "6 is L in record 0, D in all others": E in record 3
pub frame_2 : judge_of (set small 966 69) 112 ≡ answer 2 1 3 0 960
unfolding judging small_files
frame_2 = refl

-- "The written-out list and the labels must equal": DSID's first label is XCNM
pub described_4 : judge_of (set small 163 88) 112 ≡ answer 4 1 0 0 0
unfolding judging small_files
described_4 = refl

-- "undeclared": node 2 has an SG3D
pub layout_5 : judge_of (set small 1000 51) 112 ≡ answer 5 1 3 0 1018
unfolding judging small_files
layout_5 = refl

-- "RVER from 1": node 2 has 0
pub value_6 : judge_of (set small 1014 0) 112 ≡ answer 6 1 3 0 1014
unfolding judging small_files
value_6 = refl

-- "a name met before in its file": node 1, in record 4, is a second node 2
pub twice_7 : judge_of (set small 1077 2) 112 ≡ answer 7 1 4 0 1027
unfolding judging small_files
twice_7 = refl

-- "DSSI counts differ": NOCN is 3
pub counts_8 : judge_of (set small 879 3) 112 ≡ answer 8 1 1 0 749
unfolding judging small_files
counts_8 = refl

-- "Coordinates within ±90 .. times COMF": node 2, at place 4 of the held order, has a YCOO of 1,073,741,824
pub shape_17 : judge_of (set small 1021 64) 112 ≡ answer 17 1 4 0 960
unfolding judging small_files
shape_17 = refl

-- "a NAME is refused exactly if no record of the cell has it": the edge ends at node 3
pub pointer_18 : judge_of (set small 1165 3) 112 ≡ answer 18 1 5 0 1094
unfolding judging small_files
pointer_18 = refl

-- "the last ring must close": the area's one edge runs from node 1 to node 2
pub ring_19 : judge_of (set ringed 1165 2) 112 ≡ answer 19 1 6 0 1174
unfolding judging small_files
ring_19 = refl
