-- What Admit does with the small cell, computed to the bytes. Assumes nothing.
use Prim.Native.Nat.{ℕ, ◌≤◌}
use mathlib.Core.List.{List, [], ◌∷◌, ◌++◌}
use mathlib.Core.Path.{◌≡◌, refl, ap, ◌∙◌}
use native.Mathlib.Omega.{arith}
use lib.ListN.{length, drop, length-replicate}
use Rattle.answers.specs.Answer.{answer}
use Rattle.answers.specs.declared.answer.Answer.{Answer}
use Rattle.held.specs.Held.{held_of}
use Rattle.loader.specs.Admit.{admit_of, admit_area, cell_chart}
use Rattle.answers.specs.Sixteen.{answer_area}
use Rattle.reader.specs.Reader.{records_in, count_in}
use Rattle.demands.specs.Cell.{Bytes}
use Rattle.demands.specs.Accepted.{Admissible}
use Rattle.demands.proofs.Admit.{admitted_exactly, admit_writes}
use Rattle.witness.specs.SmallCell.{small}
use Rattle.witness.specs.SmallUpdates.{held_small}
use Rattle.witness.specs.SmallOffers.{room}
use Rattle.witness.proofs.Computing.{judging, admitting, small_files}
use Rattle.witness.proofs.BytesLaws.{is_byte, bytes_tested}

-- ---- computed
pub small_bytes : Bytes small
unfolding judging small_files is_byte
small_bytes = bytes_tested small refl

-- seven records want 112 bytes of work, the held form 2,077 of output
done : admit_of small 112 2077 ≡ answer 0 0 0 2077 0
unfolding judging admitting small_files
done = refl

pub small_held : held_of (cell_chart small) ≡ held_small
unfolding judging admitting small_files records_in
small_held = refl

pub small_count : count_in small ≡ 7
unfolding judging small_files records_in
small_count = refl

pub held_length : length held_small ≡ 2077
unfolding judging admitting small_files
held_length = refl

-- the output area that is lent to the calls
pub room_length : length room ≡ 2077
unfolding room
room_length = length-replicate {A = ℕ} 2077 0

-- ---- whatever areas suffice
accepted : (admit_of small 112 2077).code ≡ 0
accepted = ap (λ (a : Answer). a.code) done

pub small_admissible : Admissible small 112 2077
small_admissible = (admitted_exactly small 112 2077 small_bytes).0 accepted

length_here : length (held_of (cell_chart small)) ≡ 2077
length_here = ap length small_held ∙ held_length

pub small_accepted : (w o : ℕ) → 112 ≤ w → 2077 ≤ o → (admit_of small w o).code ≡ 0
small_accepted w o work room =
    (admitted_exactly small w o small_bytes).1 (record {
      readable = small_admissible.readable;
      sound = small_admissible.sound;
      limits = small_admissible.limits;
      areas = record { work = omega (arith, small_count); output = omega (arith, length_here) };
    })

-- Number says 2,077, and the first 2,077 bytes of the output are these; all others stay
pub small_admitted : (w : ℕ) (out : List ℕ) → 112 ≤ w → 2077 ≤ length out
    → (admit_of small w (length out) ≡ answer 0 0 0 2077 0) × (admit_area small w out ≡ held_small ++ drop 2077 out)
small_admitted w out work room =
    let t = admit_writes small w out (small_accepted w (length out) work room) in
    (rw length_here at t.answered, rw (length_here, small_held) at t.area)

-- what a host program in C finds in its answer area: 2,077 is 29 + 256 * 8
pub small_told : answer_area (1 ∷ 1 ∷ 1 ∷ 1 ∷ 1 ∷ 1 ∷ 1 ∷ 1 ∷ 1 ∷ 1 ∷ 1 ∷ 1 ∷ 1 ∷ 1 ∷ 1 ∷ 1 ∷ []) (admit_of small 112 2077)
    ≡ 0 ∷ 0 ∷ 0 ∷ 0 ∷ 0 ∷ 0 ∷ 0 ∷ 0 ∷ 0 ∷ 0 ∷ 0 ∷ 0 ∷ 29 ∷ 8 ∷ 0 ∷ 0 ∷ []
unfolding judging
small_told = rw done
