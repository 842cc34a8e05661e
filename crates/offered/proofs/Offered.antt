-- What becomes of the held forms of the small cell as its updates are offered, computed to the bytes: too early, in order, repeated, too late, with areas too short.
-- Assumes nothing.
use Prim.Native.Nat.{ℕ, ◌+◌}
use mathlib.Core.List.{List, [], ◌∷◌}
use mathlib.Core.Path.{◌≡◌, refl, ap, ◌∙◌}
use native.Mathlib.Omega.{arith}
use lib.ListN.{length}
use Rattle.answers.specs.declared.answer.Answer.{Answer}
use Rattle.held.specs.Chart.{Chart}
use Rattle.held.specs.Held.{held_of}
use Rattle.loader.specs.Admit.{admit_of, cell_chart}
use Rattle.reader.specs.Reader.{records_in}
use Rattle.demands.specs.Cell.{Bytes}
use Rattle.loader.specs.Apply.{updated_by}
use Rattle.demands.specs.Update.{Areas}
use Rattle.demands.specs.ByteChart.{Whole}
use Rattle.demands.proofs.Apply.{accepted_exactly}
use Rattle.demands.proofs.ReadsBack.{held_admitted}
use Rattle.unit.specs.Unit.{admit_wrote, Offer, offered, after}
use Rattle.unit.specs.Reissue.{chart_number, shown, number_of}
use Rattle.unit.proofs.CallLaws.{admit_wrote_lem, apply_allowed, offered_done, offered_kept}
use Rattle.unit.proofs.SeriesLaws.{allowed_next}
use Rattle.witness.specs.SmallCell.{small}
use Rattle.witness.specs.SmallUpdates.{moving, deleting, chart_small, chart_moved, chart_deleted, held_small, held_moved, held_deleted}
use Rattle.witness.specs.SmallOffers.{room, lent, narrow, tight, offers, others}
use Rattle.witness.proofs.Computing.{judging, admitting, applying, small_files}
use Rattle.witness.proofs.Admitted.{room_length, small_held, small_accepted}
use Rattle.witness.proofs.Applied.{small_means, moved_means, deleted_means, moving_bytes, deleting_bytes, small_whole, moved_whole, deleted_whole, moved_held}
use Rattle.witness.proofs.Applied.{deleted_held, small_records, moving_count, moved_records, moving_accepted, deleting_accepted, held_lengths}
use Rattle.witness.proofs.HeldLaws.{held_is_readable, held_means, held_records}

-- ---- numbers
pub numbers : (chart_number chart_small ≡ 0) × (chart_number chart_moved ≡ 1) × (chart_number chart_deleted ≡ 2) × (number_of moving ≡ 1) × (number_of deleting ≡ 2)
unfolding number_of judging admitting applying small_files records_in
numbers = (refl, refl, refl, refl, refl)

pub shown_each : (shown held_small ≡ 0) × (shown held_moved ≡ 1) × (shown held_deleted ≡ 2)
unfolding shown
shown_each = (
  ap (λ (c : Chart). chart_number c) small_means ∙ numbers.0,
  ap (λ (c : Chart). chart_number c) moved_means ∙ numbers.1,
  ap (λ (c : Chart). chart_number c) deleted_means ∙ numbers.2,
)

-- ---- one offer
-- a file whose number isn't the next leaves what is held
kept : (c : Chart) → Whole c → (cell : List ℕ) → held_of c ≡ cell → (o : Offer) → Bytes o.file → (number_of o.file ≡ chart_number c + 1 → ⊥) → offered cell o ≡ cell
kept c whole cell is o these not =
    offered_kept cell o (λ h.
    let a = apply_allowed cell o.file o.work (length o.area) these h in
    not (allowed_next (cell_chart cell) o.file a ∙ ap (λ (x : Chart). chart_number x + 1) (held_means c whole cell is)))

too_early : offered held_small (lent deleting) ≡ held_small
too_early = kept chart_small small_whole held_small small_held (lent deleting) deleting_bytes (λ e. omega (arith, numbers.0, numbers.4))

pub first_taken : offered held_small (lent moving) ≡ held_moved
first_taken =
    offered_done held_small (lent moving) (moving_accepted 160 (length room) (omega arith) (omega (arith, room_length)))
    ∙ ap (λ (c : Chart). held_of (updated_by c moving)) small_means
    ∙ moved_held

pub repeated : offered held_moved (lent moving) ≡ held_moved
repeated = kept chart_moved moved_whole held_moved moved_held (lent moving) moving_bytes (λ e. omega (arith, numbers.1, numbers.3))

second_taken : offered held_moved (lent deleting) ≡ held_deleted
second_taken =
    offered_done held_moved (lent deleting) (deleting_accepted 160 (length room) (omega arith) (omega (arith, room_length)))
    ∙ ap (λ (c : Chart). held_of (updated_by c deleting)) moved_means
    ∙ deleted_held

too_late : offered held_deleted (lent moving) ≡ held_deleted
too_late = kept chart_deleted deleted_whole held_deleted deleted_held (lent moving) moving_bytes (λ e. omega (arith, numbers.2, numbers.3))

-- areas too short: of a file that is allowed
short : (o : Offer) → o.file ≡ moving → (Areas held_small moving o.work (length o.area) → ⊥) → offered held_small o ≡ held_small
short o is not =
    offered_kept held_small o (λ h.
    not ((accepted_exactly held_small moving o.work (length o.area) moving_bytes
    (held_is_readable chart_small small_whole held_small small_held)).0 (rw is at h)).1)

few_work : offered held_small (narrow moving) ≡ held_small
few_work = short (narrow moving) refl (λ a. let r = held_records chart_small small_whole held_small small_held in omega (arith, a.work, small_records, moving_count))

no_output : offered held_small (tight moving) ≡ held_small
no_output =
    short (tight moving) refl
    (λ a. let e = ap (λ (c : Chart). length (held_of (updated_by c moving))) small_means ∙ ap length moved_held in omega (arith, a.output, held_lengths.0))

-- ---- units
-- what Admit wrote
pub room_accepted : (admit_of small 112 (length room)).code ≡ 0
room_accepted = small_accepted 112 (length room) (omega arith) (omega (arith, room_length))

pub begins : admit_wrote small 112 room ≡ held_small
begins = admit_wrote_lem small 112 room room_accepted ∙ small_held

-- 2, 1, 1, 2 offered to a unit at 0: it shows 0, 1, 1, 2
pub after_each : (after (admit_wrote small 112 room) (lent deleting ∷ []) ≡ held_small)
    × (after (admit_wrote small 112 room) (lent deleting ∷ lent moving ∷ []) ≡ held_moved)
    × (after (admit_wrote small 112 room) (lent deleting ∷ lent moving ∷ lent moving ∷ []) ≡ held_moved)
    × (after (admit_wrote small 112 room) offers ≡ held_deleted)
unfolding after
after_each = (
  rw (begins, too_early),
  rw (begins, too_early, first_taken),
  rw (begins, too_early, first_taken, repeated),
  rw (begins, too_early, first_taken, repeated, second_taken),
)

-- the second unit comes to the same bytes by another way
pub after_others : after (admit_wrote small 112 room) others ≡ held_deleted
unfolding after
after_others = rw (begins, few_work, no_output, first_taken, second_taken, too_late)

-- ---- a unit that begins from what another held at 1
pub moved_accepted : (admit_of held_moved 112 (length room)).code ≡ 0
moved_accepted =
    ap (λ (a : Answer). a.code)
    (rw moved_held at (held_admitted chart_moved moved_whole.good 112 room (omega (arith, moved_records)) (omega (arith, ap length moved_held, held_lengths.0, room_length))))

begins_again : admit_wrote held_moved 112 room ≡ held_moved
begins_again = admit_wrote_lem held_moved 112 room moved_accepted ∙ ap held_of moved_means ∙ moved_held

-- update 1 is repeated, whatever areas are lent
repeated_narrow : offered held_moved (narrow moving) ≡ held_moved
repeated_narrow = kept chart_moved moved_whole held_moved moved_held (narrow moving) moving_bytes (λ e. omega (arith, numbers.1, numbers.3))

repeated_tight : offered held_moved (tight moving) ≡ held_moved
repeated_tight = kept chart_moved moved_whole held_moved moved_held (tight moving) moving_bytes (λ e. omega (arith, numbers.1, numbers.3))

pub again_others : after (admit_wrote held_moved 112 room) others ≡ held_deleted
unfolding after
again_others = rw (begins_again, repeated_narrow, repeated_tight, repeated, second_taken, too_late)
