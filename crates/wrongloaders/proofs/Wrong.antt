-- The loaders that document 01 shuts out ("Strength of the promises"): none of them keeps the contract of Judge, of Admit or of Apply, as the small cell and its updates show.
-- `admit_number`, `apply_number`: one that keeps it invents no length on any call. Assumes nothing.
use Prim.Native.Nat.{ℕ}
use mathlib.Core.List.{List, [], ◌++◌, map}
use mathlib.Core.Path.{◌≡◌, refl, sym, ap, ◌∙◌}
use native.Mathlib.Omega.{arith}
use lib.ListN.{length, drop, get_or}
use lib.Seq.{take_at}
use Rattle.answers.specs.Answer.{answer}
use Rattle.answers.specs.declared.answer.Answer.{Answer}
use Rattle.items.specs.Item.{Item}
use Rattle.held.specs.Chart.{Chart}
use Rattle.held.specs.Held.{held_of}
use Rattle.judging.specs.Judge.{judge_of}
use Rattle.loader.specs.Admit.{admit_of, cell_chart}
use Rattle.loader.specs.Apply.{apply_of, updated_by}
use Rattle.reader.specs.Reader.{records_in}
use Rattle.demands.proofs.ReadsBack.{held_admitted, held_again}
use Rattle.demands.proofs.Admit.{admit_writes}
use Rattle.demands.proofs.Apply.{apply_writes}
use Rattle.demands.proofs.Needs.{judge_work, admit_work, apply_work, admit_room, apply_room}
use Rattle.witness.specs.SmallCell.{small}
use Rattle.witness.specs.SmallUpdates.{moving, deleting, chart_small, chart_moved, held_small, held_moved, held_deleted}
use Rattle.witness.specs.SmallOffers.{room}
use Rattle.wrongloaders.specs.Loaders.{Left, Admitter, Applier, wrote, KeepsAdmit, KeepsApply, AdmitsNothing, AppliesNothing, AdmitsAlike, AppliesAlike, WritesAlike}
use Rattle.wrongloaders.specs.Loaders.{Copies, WorksAhead, InventsAdmitted, InventsApplied, Judger, KeepsJudge, JudgesNothing, JudgesAlike, InventsAdmitRoom}
use Rattle.wrongloaders.specs.Loaders.{InventsApplyRoom, InventsJudgeWork, InventsAdmitWork, InventsApplyWork}
use Rattle.witness.proofs.Computing.{judging, admitting, applying, small_files}
use Rattle.witness.proofs.Judged.{small_judged}
use Rattle.witness.proofs.Admitted.{small_admitted, held_length, room_length, small_bytes, small_admissible, small_count, small_held}
use Rattle.witness.proofs.Applied.{moved_whole, moved_held, moved_records, deleted_records, held_lengths, small_means, moved_means, deleted_means, moving_applied}
use Rattle.witness.proofs.Applied.{deleting_applied, moving_again, moving_allowed, moving_count}

code_of : {a b : Answer} → a ≡ b → a.code ≡ b.code
code_of e = ap (λ (x : Answer). x.code) e

-- what was written, where the answer has the length and the area begins with the held form
wrote_held : (l : Left) (held rest : List ℕ) (k : ℕ) → l.told ≡ answer 0 0 0 k 0 → l.area ≡ held ++ rest → length held ≡ k → wrote l ≡ held
wrote_held l held rest k e f g = rw (e, f) (take_at held rest k g)

-- ---- of a loader that keeps Admit's contract
module _ {admit : Admitter} (keeps : KeepsAdmit admit) where
  small_told : (admit small 112 room).told ≡ answer 0 0 0 2077 0
  small_told = keeps.told small 112 room ∙ (small_admitted 112 room (omega arith) (omega (arith, room_length))).0

  small_wrote : wrote (admit small 112 room) ≡ held_small
  small_wrote =
      wrote_held (admit small 112 room) held_small (drop 2077 room) 2077 small_told
      (keeps.area small 112 room ∙ (small_admitted 112 room (omega arith) (omega (arith, room_length))).1) held_length

  -- a second cell that is accepted: the small one with update 1, as it is held
  moved_told : (admit held_moved 112 room).told ≡ answer 0 0 0 2077 0
  moved_told =
      keeps.told held_moved 112 room
      ∙ (rw moved_held at
      (held_admitted chart_moved moved_whole.good 112 room (omega (arith, moved_records)) (omega (arith, ap length moved_held, held_lengths.0, room_length))))
      ∙ ap (λ (n : ℕ). answer 0 0 0 n 0) held_lengths.0

  moved_wrote : wrote (admit held_moved 112 room) ≡ held_moved
  moved_wrote =
      wrote_held (admit held_moved 112 room) held_moved (drop (length held_moved) room) 2077 moved_told
      (keeps.area held_moved 112 room
      ∙ (rw moved_held at (held_again chart_moved moved_whole.good 112 room (omega (arith, moved_records)) (omega (arith, ap length moved_held, held_lengths.0, room_length)))))
      held_lengths.0

  -- Number is how long the held form is, on every call that is accepted
  pub admit_number : (cell : List ℕ) (w : ℕ) (out : List ℕ) → (admit cell w out).told.code ≡ 0 → (admit cell w out).told.number ≡ length (held_of (cell_chart cell))
  admit_number cell w out h =
      let e = keeps.told cell w out in
      ap (λ (x : Answer). x.number) (e ∙ (admit_writes cell w out (sym (code_of e) ∙ h)).answered)

-- ---- of a loader that keeps Apply's contract
module _ {apply : Applier} (keeps : KeepsApply apply) where
  moving_told : (apply held_small moving 160 room).told ≡ answer 0 0 0 2077 0
  moving_told = keeps.told held_small moving 160 room ∙ (moving_applied 160 room (omega arith) (omega (arith, room_length))).0

  moving_wrote : wrote (apply held_small moving 160 room) ≡ held_moved
  moving_wrote =
      wrote_held (apply held_small moving 160 room) held_moved (drop 2077 room) 2077 moving_told
      (keeps.area held_small moving 160 room ∙ (moving_applied 160 room (omega arith) (omega (arith, room_length))).1) held_lengths.0

  deleting_told : (apply held_moved deleting 160 room).told ≡ answer 0 0 0 1986 0
  deleting_told = keeps.told held_moved deleting 160 room ∙ (deleting_applied 160 room (omega arith) (omega (arith, room_length))).0

  deleting_wrote : wrote (apply held_moved deleting 160 room) ≡ held_deleted
  deleting_wrote =
      wrote_held (apply held_moved deleting 160 room) held_deleted (drop 1986 room) 1986 deleting_told
      (keeps.area held_moved deleting 160 room ∙ (deleting_applied 160 room (omega arith) (omega (arith, room_length))).1) held_lengths.1

  pub apply_number : (cell file : List ℕ) (w : ℕ) (out : List ℕ) → (apply cell file w out).told.code ≡ 0
      → (apply cell file w out).told.number ≡ length (held_of (updated_by (cell_chart cell) file))
  apply_number cell file w out h =
      let e = keeps.told cell file w out in
      ap (λ (x : Answer). x.number) (e ∙ (apply_writes cell file w out (sym (code_of e) ∙ h)).answered)

-- ---- RVER of the second object, node 2
unfoldable second_version : List Item → ℕ
second_version ts = get_or (map (λ (t : Item). t.version) ts) 1 0

versions : (second_version chart_small.items ≡ 1) × (second_version chart_moved.items ≡ 2)
unfolding second_version judging admitting applying small_files records_in
versions = (refl, refl)

-- ---- "a loader that refuses everything"
pub not_nothing_judged : {judge : Judger} → KeepsJudge judge → JudgesNothing judge → ⊥
not_nothing_judged k wrong = wrong.never small 112 (code_of (k.told small 112 ∙ small_judged 112 (omega arith)))

pub not_nothing_admitted : {admit : Admitter} → KeepsAdmit admit → AdmitsNothing admit → ⊥
not_nothing_admitted k wrong = wrong.never small 112 room (code_of (small_told k))

pub not_nothing_applied : {apply : Applier} → KeepsApply apply → AppliesNothing apply → ⊥
not_nothing_applied k wrong = wrong.never held_small moving 160 room (code_of (moving_told k))

-- ---- "one answer for every cell"
-- a file of no bytes: "length 0 is Frame"
empty_refused : (admit_of [] 112 2077).code ≡ 2
unfolding judging admitting
empty_refused = refl

empty_judged : (judge_of [] 112).code ≡ 2
unfolding judging
empty_judged = refl

pub not_alike_judged : {judge : Judger} → KeepsJudge judge → JudgesAlike judge → ⊥
not_alike_judged {judge} k wrong =
    let zero : (judge small 112).code ≡ 0 = code_of (k.told small 112 ∙ small_judged 112 (omega arith)) in
    let two : (judge [] 112).code ≡ 2 = code_of (k.told [] 112) ∙ empty_judged in
    let same = wrong.alike small [] 112 in
    omega arith

pub not_alike_admitted : {admit : Admitter} → KeepsAdmit admit → AdmitsAlike admit → ⊥
not_alike_admitted {admit} k wrong =
    let zero : (admit small 112 room).told.code ≡ 0 = code_of (small_told k) in
    let two : (admit [] 112 room).told.code ≡ 2 = code_of (k.told [] 112 room) ∙ ap (λ (o : ℕ). (admit_of [] 112 o).code) room_length ∙ empty_refused in
    let same = wrong.alike small [] 112 room in
    omega arith

-- the cell at 0 takes update 1, the cell at 1 doesn't
pub not_alike_applied : {apply : Applier} → KeepsApply apply → AppliesAlike apply → ⊥
not_alike_applied {apply} k wrong =
    let zero : (apply held_small moving 160 room).told.code ≡ 0 = code_of (moving_told k) in
    let eleven : (apply held_moved moving 160 room).told.code ≡ 11 = code_of (k.told held_moved moving 160 room ∙ moving_again 160 (length room) (omega arith)) in
    let same = wrong.alike held_small held_moved moving 160 room in
    omega arith

-- the two cells that are accepted have two re-issues
different : held_small ≡ held_moved → ⊥
different e =
    let z = ap (λ (s : List ℕ). second_version (cell_chart s).items) e in
    let a = ap (λ (c : Chart). second_version c.items) small_means in
    let b = ap (λ (c : Chart). second_version c.items) moved_means in
    omega (arith, versions.0, versions.1)

pub not_written_alike : {admit : Admitter} → KeepsAdmit admit → WritesAlike admit → ⊥
not_written_alike k wrong =
    different (sym (small_wrote k) ∙ wrong.alike small held_moved 112 room (code_of (small_told k)) (code_of (moved_told k)) ∙ moved_wrote k)

-- ---- "a copy called updated"
pub not_copy : {apply : Applier} → KeepsApply apply → Copies apply → ⊥
not_copy k wrong =
    let e = wrong.copy held_small moving 160 room (code_of (moving_told k)) in
    let z = ap second_version (ap (λ (s : List ℕ). (cell_chart s).items) (sym (moving_wrote k)) ∙ e) in
    let a = ap (λ (c : Chart). second_version c.items) small_means in
    let b = ap (λ (c : Chart). second_version c.items) moved_means in
    omega (arith, versions.0, versions.1)

-- ---- "a series worked in at its first file, later ones only raising UPDN": at 1 there are four objects, at 2 three
pub not_ahead : {apply : Applier} → KeepsApply apply → WorksAhead apply → ⊥
not_ahead {apply} k wrong =
    let one = moving_wrote k in
    let done : (apply (wrote (apply held_small moving 160 room)) deleting 160 room).told.code ≡ 0 =
    ap (λ (s : List ℕ). (apply s deleting 160 room).told.code) one ∙ code_of (deleting_told k) in
    let two : wrote (apply (wrote (apply held_small moving 160 room)) deleting 160 room) ≡ held_deleted =
    ap (λ (s : List ℕ). wrote (apply s deleting 160 room)) one ∙ deleting_wrote k in
    let e = wrong.ahead held_small moving deleting 160 room (code_of (moving_told k)) done in
    let z = ap length (ap (λ (s : List ℕ). (cell_chart s).items) (sym two) ∙ e ∙ ap (λ (s : List ℕ). (cell_chart s).items) one) in
    let a = ap (λ (c : Chart). length c.items) moved_means in
    let b = ap (λ (c : Chart). length c.items) deleted_means in
    omega (arith, moved_records, deleted_records)

-- ---- "an invented length"
pub not_invented_admitted : {admit : Admitter} → KeepsAdmit admit → InventsAdmitted admit → ⊥
not_invented_admitted k wrong = wrong.other small 112 room (code_of (small_told k)) (admit_number k small 112 room (code_of (small_told k)))

pub not_invented_applied : {apply : Applier} → KeepsApply apply → InventsApplied apply → ⊥
not_invented_applied k wrong = wrong.other held_small moving 160 room (code_of (moving_told k)) (apply_number k held_small moving 160 room (code_of (moving_told k)))

-- with 21: the small cell and its update 1, with no output
number_of : {a b : Answer} → a ≡ b → a.number ≡ b.number
number_of e = ap (λ (x : Answer). x.number) e

no_admit_room : admit_of small 112 0 ≡ answer 21 0 0 (length (held_of (cell_chart small))) 0
no_admit_room =
    let a = small_admissible in
    admit_room small 112 0 small_bytes a.readable a.sound a.limits (omega (arith, small_count)) (omega (arith, ap length small_held, held_length))

pub not_invented_admit_room : {admit : Admitter} → KeepsAdmit admit → InventsAdmitRoom admit → ⊥
not_invented_admit_room k wrong = let e = k.told small 112 [] ∙ no_admit_room in wrong.other small 112 [] (code_of e) (number_of e)

no_apply_room : apply_of small moving 160 0 ≡ answer 21 0 0 (length (held_of (updated_by (cell_chart small) moving))) 0
no_apply_room =
    apply_room small moving 160 0 small_admissible.readable moving_allowed (omega (arith, small_count, moving_count)) (omega (arith, ap length moved_held, held_lengths.0))

pub not_invented_apply_room : {apply : Applier} → KeepsApply apply → InventsApplyRoom apply → ⊥
not_invented_apply_room k wrong = let e = k.told small moving 160 [] ∙ no_apply_room in wrong.other small moving 160 [] (code_of e) (number_of e)

-- with 3: the same, with no work area
pub not_invented_judge_work : {judge : Judger} → KeepsJudge judge → InventsJudgeWork judge → ⊥
not_invented_judge_work k wrong =
    let e = k.told small 0 ∙ judge_work small 0 small_admissible.readable.opened (omega (arith, small_count)) in
    wrong.other small 0 (code_of e) (number_of e)

pub not_invented_admit_work : {admit : Admitter} → KeepsAdmit admit → InventsAdmitWork admit → ⊥
not_invented_admit_work k wrong =
    let e = k.told small 0 [] ∙ admit_work small 0 0 small_admissible.readable.opened (omega (arith, small_count)) in
    wrong.other small 0 [] (code_of e) (number_of e)

pub not_invented_apply_work : {apply : Applier} → KeepsApply apply → InventsApplyWork apply → ⊥
not_invented_apply_work k wrong =
    let a = small_admissible.readable.opened in
    let e = k.told small moving 0 [] ∙ apply_work small moving 0 0 a moving_allowed.reads.opened (omega (arith, small_count, moving_count)) in
    wrong.other small moving 0 [] (code_of e) (number_of e)
