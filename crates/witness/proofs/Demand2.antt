-- Demand 2 on the small files: the premises of its theorems are met, and this is what they say. Assumes nothing.
use Prim.Native.Nat.{ℕ, ◌≤◌}
use mathlib.Core.List.{List, ◌++◌}
use mathlib.Core.Path.{◌≡◌, ap}
use native.Mathlib.Omega.{arith}
use lib.ListN.{length, drop}
use Rattle.items.specs.Identity.{name_from}
use Rattle.answers.specs.Answer.{answer}
use Rattle.answers.specs.declared.answer.Answer.{Answer}
use Rattle.items.specs.Item.{item_name}
use Rattle.changes.specs.Change.{Amendment}
use Rattle.changes.specs.Amend.{held_by}
use Rattle.changes.specs.Rules.{All, Done}
use Rattle.changes.specs.Rules.All.{all_none, all_more}
use Rattle.judging.specs.Judge.{judge_of}
use Rattle.loader.specs.Admit.{admit_of, admit_area, cell_chart}
use Rattle.loader.specs.Apply.{apply_of, apply_area, file_change}
use Rattle.reader.specs.Reader.{records_in}
use Rattle.demands.specs.Cell.{Readable}
use Rattle.demands.specs.Update.{Allowed, Areas}
use Rattle.demands.specs.Accepted.{Judgeable}
use Rattle.demands.specs.Written.{admitted_bytes, applied_bytes, ReadsAs, Applied}
use Rattle.demands.specs.Verdict.{Good}
use Rattle.demands.proofs.ReadsBack.{held_readable, held_judged}
use Rattle.demands.proofs.Judge.{judged_exactly}
use Rattle.demands.proofs.Admit.{admitted_exactly, admit_refuses, admitted_good, admit_again}
use Rattle.demands.proofs.Updated.{Once, updated_good, updated_once, named_done, other_kept}
use Rattle.demands.proofs.Apply.{accepted_exactly, apply_refuses, never_again}
use Rattle.demands.proofs.Written.{admit_written, apply_written}
use Rattle.witness.specs.SmallCell.{small}
use Rattle.witness.specs.SmallUpdates.{moving, deleting, chart_small, chart_moved, held_small, held_moved}
use Rattle.witness.specs.SmallOffers.{room}
use Rattle.witness.proofs.Computing.{judging, admitting, applying, small_files}
use Rattle.witness.proofs.HeldLaws.{held_is_bytes, held_is_readable}
use Rattle.witness.proofs.Judged.{small_judged}
use Rattle.witness.proofs.Admitted.{small_bytes, small_held, held_length, small_count, small_accepted, room_length}
use Rattle.witness.proofs.Applied.{moving_bytes, small_whole, moved_whole, moved_held, small_records, moved_records, moves_code, moving_allowed, moving_accepted}
use Rattle.witness.proofs.Applied.{deleting_early}

code_of : {a b : Answer} → a ≡ b → a.code ≡ b.code
code_of e = ap (λ (x : Answer). x.code) e

accepted : (admit_of small 112 2077).code ≡ 0
accepted = small_accepted 112 2077 (omega arith) (omega arith)

-- ---- Judge: `judged_exactly`
pub small_judgeable : Judgeable small 112
small_judgeable = (judged_exactly small 112 small_bytes).0 (code_of (small_judged 112 (omega arith)))

-- ---- Admit: `admitted_exactly` and `admit_writes` are met in Admitted.antt
-- `admit_refuses`: a byte of work too few
pub small_refused : (out : List ℕ) → admit_area small 111 out ≡ out
small_refused out = admit_refuses small 111 out (λ h. let a = (admitted_exactly small 111 (length out) small_bytes).0 h in omega (arith, a.areas.work, small_count))

-- `admitted_good`
pub small_good : Good chart_small
small_good = admitted_good small 112 2077 small_bytes accepted

-- `admit_written`: what is written reads back as the cell's chart
pub small_written : ReadsAs (admitted_bytes small 112 room) chart_small
small_written = admit_written small 112 room small_bytes (small_accepted 112 (length room) (omega arith) (omega (arith, room_length)))

-- `admit_again`: the held form is admitted as itself
pub held_again : (out : List ℕ) → 2077 ≤ length out → (admit_of held_small 112 (length out) ≡ answer 0 0 0 2077 0) × (admit_area held_small 112 out ≡ held_small ++ drop 2077 out)
held_again out long =
    rw held_length at (rw small_held at
    (admit_again small 112 2077 small_bytes accepted 112 out (omega (arith, small_records)) (omega (arith, ap length small_held, held_length))))

-- ---- `held_readable`, `held_back`, `held_judged`: Judge accepts a held form
pub moved_readable : Readable held_moved
moved_readable = rw moved_held at (held_readable chart_moved moved_whole.good)

pub moved_judged : (w : ℕ) → 112 ≤ w → judge_of held_moved w ≡ answer 0 0 0 0 0
moved_judged w work = rw moved_held at (held_judged chart_moved moved_whole.good w (omega (arith, moved_records)))

-- ---- Apply: `apply_writes` and `apply_again` are met in Applied.antt
-- `accepted_exactly`
pub moving_exactly : Allowed (cell_chart held_small) moving × Areas held_small moving 160 2077
moving_exactly =
    (accepted_exactly held_small moving 160 2077 moving_bytes
    (held_is_readable chart_small small_whole held_small small_held)).0 (moving_accepted 160 2077 (omega arith) (omega arith))

-- `apply_written`: what is written for update 1 reads back as the updated chart, and against the cell it is the update that was done
pub moving_written : Applied held_small moving (applied_bytes held_small moving 160 room)
moving_written =
    apply_written held_small moving 160 room (held_is_bytes chart_small small_whole held_small small_held) moving_bytes
    (moving_accepted 160 (length room) (omega arith) (omega (arith, room_length)))

-- `apply_refuses`: update 2 too early
pub early_kept : (out : List ℕ) → apply_area held_small deleting 160 out ≡ out
early_kept out =
    apply_refuses held_small deleting 160 out (λ h. let e : ◌≡◌ {A = ℕ} 11 0 = rw (deleting_early 160 (length out) (omega arith)) at h in omega arith)

-- `never_again`: update 1 a second time, whatever areas are lent
pub moving_never : (w o : ℕ) → (apply_of held_moved moving w o).code ≡ 0 → ⊥
moving_never w o h = never_again small moving small_bytes moving_bytes 160 2077 moves_code w o (rw moved_held h)

-- ---- what an update makes of a chart: `updated_good`, `updated_once`, `named_done`
pub moved_good : Good chart_moved
moved_good = updated_good chart_small moving moving_bytes small_good.values moving_allowed

pub moved_once : Once chart_small moving
moved_once = updated_once chart_small moving moving_allowed

pub moved_done : All (Done chart_small.items chart_moved.items) (file_change moving).amendments
moved_done = named_done chart_small moving moving_bytes moving_allowed

-- `other_kept`: node 1, which update 1 doesn't name
two_names : ◌≡◌ {A = ℕ} 4294967297 4294967298 → ⊥
two_names e = omega arith

others_differ : All (λ (a : Amendment). 4294967297 ≡ item_name a.object → ⊥) (file_change moving).amendments
unfolding judging admitting applying small_files records_in
others_differ = all_more two_names all_none

pub other_node : held_by chart_moved.items (name_from 120 1) ≡ held_by chart_small.items (name_from 120 1)
unfolding judging
other_node = other_kept chart_small moving 4294967297 others_differ

-- ---- `Whole-back`, `whole_admitted`, `whole_updated` are met in Applied.antt
