-- What Apply does with the two updates of the small cell, computed to the bytes: in order, too early, and again. Assumes nothing.
use Prim.Native.Nat.{ℕ, ◌≤◌}
use mathlib.Core.List.{List, ◌++◌}
use mathlib.Core.Path.{◌≡◌, refl, ap, ◌∙◌}
use native.Mathlib.Omega.{arith}
use lib.ListN.{length, drop}
use Rattle.iso8211.specs.File.{record_at}
use Rattle.answers.specs.Answer.{refusal, answer}
use Rattle.answers.specs.declared.answer.Answer.{Answer}
use Rattle.held.specs.Held.{held_of}
use Rattle.held.specs.Limits.{record_count}
use Rattle.changes.specs.Amend.{change_fault}
use Rattle.loader.specs.Apply.{apply_of, apply_area, changes_in, file_change}
use Rattle.reader.specs.Reader.{records_in}
use Rattle.loader.specs.Admit.{cell_chart}
use Rattle.demands.specs.Cell.{Bytes}
use Rattle.demands.specs.Update.{Allowed}
use Rattle.demands.specs.ByteChart.{Whole}
use Rattle.demands.proofs.Apply.{accepted_readable, accepted_exactly}
use Rattle.demands.proofs.Whole.{whole_admitted}
use Rattle.witness.specs.SmallCell.{small}
use Rattle.witness.specs.SmallUpdates.{moving, deleting, chart_small, chart_moved, chart_deleted, held_small, held_moved, held_deleted}
use Rattle.witness.proofs.Computing.{judging, admitting, applying, small_files}
use Rattle.witness.proofs.BytesLaws.{is_byte, bytes_tested}
use Rattle.witness.proofs.Admitted.{small_bytes, small_held, small_accepted}
use Rattle.witness.proofs.HeldLaws.{held_is_bytes, held_means, not_following, next_whole, accepted_here, written_here, again_here}

-- ---- computed
pub moving_bytes : Bytes moving
unfolding judging small_files is_byte
moving_bytes = bytes_tested moving refl

pub deleting_bytes : Bytes deleting
unfolding judging small_files is_byte
deleting_bytes = bytes_tested deleting refl

-- update 1 on the cell itself, and update 2 on what is held then
moves : apply_of small moving 160 2077 ≡ answer 0 0 0 2077 0
unfolding judging admitting applying small_files
moves = refl

deletes : apply_of held_moved deleting 160 1986 ≡ answer 0 0 0 1986 0
unfolding judging admitting applying small_files
deletes = refl

-- the held forms
pub moved_held : held_of chart_moved ≡ held_moved
unfolding judging admitting applying small_files records_in
moved_held = refl

pub deleted_held : held_of chart_deleted ≡ held_deleted
unfolding judging admitting applying small_files records_in
deleted_held = refl

-- "UPDN isn't the cell's plus 1"
early : change_fault chart_small (file_change deleting) ≡ refusal 11 1 0
unfolding judging admitting applying small_files records_in
early = refl

-- records and places
pub small_records : record_count chart_small ≡ 7
unfolding judging admitting small_files records_in
small_records = refl

pub moved_records : record_count chart_moved ≡ 7
unfolding judging admitting applying small_files records_in
moved_records = refl

pub deleted_records : record_count chart_deleted ≡ 6
unfolding judging admitting applying small_files records_in
deleted_records = refl

pub moving_count : changes_in moving ≡ 3
unfolding judging small_files records_in
moving_count = refl

pub deleting_count : changes_in deleting ≡ 3
unfolding judging small_files records_in
deleting_count = refl

places : (record_at moving 1 ≡ 438) × (record_at deleting 1 ≡ 424)
unfolding judging small_files
places = (refl, refl)

pub held_lengths : (length held_moved ≡ 2077) × (length held_deleted ≡ 1986)
unfolding judging admitting small_files
held_lengths = (refl, refl)

-- ---- the charts are good and of bytes, and the updates are allowed on them
pub small_whole : Whole chart_small
small_whole = ((whole_admitted small 112 2077 small_bytes).0 (small_accepted 112 2077 (omega arith) (omega arith))).1

pub moves_code : (apply_of small moving 160 2077).code ≡ 0
moves_code = ap (λ (a : Answer). a.code) moves

pub moving_allowed : Allowed chart_small moving
moving_allowed = ((accepted_exactly small moving 160 2077 moving_bytes (accepted_readable small moving 160 2077 moves_code)).0 moves_code).0

pub moved_whole : Whole chart_moved
moved_whole = next_whole chart_small small_whole held_small small_held moving moving_bytes moving_allowed held_moved moved_held

pub moved_bytes : Bytes held_moved
moved_bytes = held_is_bytes chart_moved moved_whole held_moved moved_held

pub deleting_allowed : Allowed chart_moved deleting
deleting_allowed =
    let h : (apply_of held_moved deleting 160 1986).code ≡ 0 = ap (λ (a : Answer). a.code) deletes in
    rw (held_means chart_moved moved_whole held_moved moved_held) at
    ((accepted_exactly held_moved deleting 160 1986 deleting_bytes (accepted_readable held_moved deleting 160 1986 h)).0 h).0

pub deleted_whole : Whole chart_deleted
deleted_whole = next_whole chart_moved moved_whole held_moved moved_held deleting deleting_bytes deleting_allowed held_deleted deleted_held

-- ---- in order: "the held form of the result", with Number; all other bytes of the output stay
pub moving_accepted : (w o : ℕ) → 160 ≤ w → 2077 ≤ o → (apply_of held_small moving w o).code ≡ 0
moving_accepted w o work room =
    accepted_here chart_small small_whole held_small small_held moving moving_bytes moving_allowed held_moved moved_held w o
    (omega (arith, small_records, moving_count)) (omega (arith, held_lengths.0))

pub moving_applied : (w : ℕ) (out : List ℕ) → 160 ≤ w → 2077 ≤ length out
    → (apply_of held_small moving w (length out) ≡ answer 0 0 0 2077 0) × (apply_area held_small moving w out ≡ held_moved ++ drop 2077 out)
moving_applied w out work room =
    rw held_lengths.0 at
    (written_here chart_small small_whole held_small small_held moving moving_bytes moving_allowed held_moved moved_held w out
    (omega (arith, small_records, moving_count)) (omega (arith, held_lengths.0)))

pub deleting_accepted : (w o : ℕ) → 160 ≤ w → 1986 ≤ o → (apply_of held_moved deleting w o).code ≡ 0
deleting_accepted w o work room =
    accepted_here chart_moved moved_whole held_moved moved_held deleting deleting_bytes deleting_allowed held_deleted deleted_held w o
    (omega (arith, moved_records, deleting_count)) (omega (arith, held_lengths.1))

pub deleting_applied : (w : ℕ) (out : List ℕ) → 160 ≤ w → 1986 ≤ length out
    → (apply_of held_moved deleting w (length out) ≡ answer 0 0 0 1986 0) × (apply_area held_moved deleting w out ≡ held_deleted ++ drop 1986 out)
deleting_applied w out work room =
    rw held_lengths.1 at
    (written_here chart_moved moved_whole held_moved moved_held deleting deleting_bytes deleting_allowed held_deleted deleted_held w out
    (omega (arith, moved_records, deleting_count)) (omega (arith, held_lengths.1)))

-- ---- out of order
-- update 2 before update 1
pub deleting_early : (w o : ℕ) → 160 ≤ w → apply_of held_small deleting w o ≡ answer 11 2 1 0 424
deleting_early w o work =
    not_following chart_small small_whole held_small small_held deleting deleting_allowed.reads early w o (omega (arith, small_records, deleting_count))
    ∙ ap (answer 11 2 1 0) places.1

-- update 1 a second time
pub moving_again : (w o : ℕ) → 160 ≤ w → apply_of held_moved moving w o ≡ answer 11 2 1 0 438
moving_again w o work =
    again_here chart_small small_whole held_small small_held moving moving_bytes moving_allowed held_moved moved_held w o (omega (arith, moved_records, moving_count))
    ∙ ap (answer 11 2 1 0) places.0

-- update 2 a second time
pub deleting_again : (w o : ℕ) → 144 ≤ w → apply_of held_deleted deleting w o ≡ answer 11 2 1 0 424
deleting_again w o work =
    again_here chart_moved moved_whole held_moved moved_held deleting deleting_bytes deleting_allowed held_deleted deleted_held w o (omega (arith, deleted_records, deleting_count))
    ∙ ap (answer 11 2 1 0) places.1

-- ---- what the held forms mean
pub small_means : cell_chart held_small ≡ chart_small
small_means = held_means chart_small small_whole held_small small_held

pub moved_means : cell_chart held_moved ≡ chart_moved
moved_means = held_means chart_moved moved_whole held_moved moved_held

pub deleted_means : cell_chart held_deleted ≡ chart_deleted
deleted_means = held_means chart_deleted deleted_whole held_deleted deleted_held
