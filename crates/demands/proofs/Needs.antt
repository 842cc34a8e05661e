-- "Number: .. bytes needed for 3 and 21". `admit_work`, `apply_work`: framed files with too short a work area are refused with 3 and 16 bytes a record. `admit_room`,
-- `apply_room`: what would be accepted but for its output is refused with 21 and the length of the held form. Assumes nothing.
use Prim.Native.Nat.{ℕ, ◌+◌, ◌*◌, ◌≤◌, ◌<◌}
use mathlib.Core.List.{List}
use mathlib.Core.Path.{◌≡◌}
use lib.ListN.{length}
use borrow.Author.Tests.{le-ltb, lt-ltb, eq-eqb}
use Rattle.answers.specs.Answer.{answer, filed}
use Rattle.answers.specs.First.{first_by}
use Rattle.reader.specs.Reader.{front_of, cell_fault, update_fault, work_answer, fronted, records_in, count_in}
use Rattle.std.specs.Prelude.{Ok}
use Rattle.held.specs.Held.{held_of}
use Rattle.held.specs.Limits.{Fits}
use Rattle.held.proofs.LimitsLaws.{fits_tested}
use Rattle.changes.specs.Amend.{change_fault, placed_in}
use Rattle.changes.proofs.RulesLaws.{acceptable_tested}
use Rattle.verdict.specs.Verdict.{chart_topology}
use Rattle.judging.specs.Judge.{cell_verdict, judge_of}
use Rattle.loader.specs.Admit.{held_answer, admit_of, cell_chart}
use Rattle.loader.specs.Apply.{apply_of, changes_in, file_change, updated_by}
use Rattle.demands.specs.Cell.{Bytes, Readable}
use Rattle.demands.specs.Sound.{Sound}
use Rattle.demands.specs.Update.{Allowed}
use Rattle.demands.proofs.SoundLaws.{sound_tested}
use Rattle.demands.proofs.Judge.{sound_verdict}

-- ---- 3
pub judge_work : (cell : List ℕ) (w : ℕ) → front_of 1 cell ≡ Ok (count_in cell) → w < 16 * count_in cell → judge_of cell w ≡ answer 3 0 0 (16 * count_in cell) 0
unfolding judge_of fronted work_answer first_by records_in
judge_work cell w opened short = rw (opened, lt-ltb w (16 * count_in cell) short)

pub admit_work : (cell : List ℕ) (w o : ℕ) → front_of 1 cell ≡ Ok (count_in cell) → w < 16 * count_in cell → admit_of cell w o ≡ answer 3 0 0 (16 * count_in cell) 0
unfolding admit_of fronted work_answer first_by records_in
admit_work cell w o opened short = rw (opened, lt-ltb w (16 * count_in cell) short)

pub apply_work : (cell file : List ℕ) (w o : ℕ) → front_of 1 cell ≡ Ok (count_in cell) → front_of 2 file ≡ Ok (changes_in file)
    → w < 16 * (count_in cell + changes_in file) → apply_of cell file w o ≡ answer 3 0 0 (16 * (count_in cell + changes_in file)) 0
unfolding apply_of fronted work_answer first_by records_in
apply_work cell file w o opened second short = rw (opened, second, lt-ltb w (16 * (count_in cell + changes_in file)) short)

-- ---- 21
pub admit_room : (cell : List ℕ) (w o : ℕ) → Bytes cell → Readable cell → Sound (cell_chart cell) → Fits (cell_chart cell) → 16 * count_in cell ≤ w
    → o < length (held_of (cell_chart cell)) → admit_of cell w o ≡ answer 21 0 0 (length (held_of (cell_chart cell))) 0
unfolding admit_of fronted work_answer first_by filed held_answer records_in
admit_room cell w o bytes r so fit work short =
    let n = count_in cell in
    rw (
      r.opened,
      le-ltb w (16 * n) work,
      eq-eqb (cell_verdict cell n).code 0 (sound_verdict cell n bytes r.opened r.fine so),
      fits_tested (cell_chart cell) fit,
      lt-ltb o (length (held_of (cell_chart cell))) short,
    )

pub apply_room : (cell file : List ℕ) (w o : ℕ) → Readable cell → Allowed (cell_chart cell) file → 16 * (count_in cell + changes_in file) ≤ w
    → o < length (held_of (updated_by (cell_chart cell) file)) → apply_of cell file w o ≡ answer 21 0 0 (length (held_of (updated_by (cell_chart cell) file))) 0
unfolding apply_of fronted work_answer first_by filed placed_in held_answer records_in
apply_room cell file w o r a work short =
    let n = count_in cell in
    let m = changes_in file in
    let made = updated_by (cell_chart cell) file in
    rw (
      r.opened,
      a.reads.opened,
      le-ltb w (16 * (n + m)) work,
      eq-eqb (cell_fault cell n).code 0 r.fine,
      eq-eqb (update_fault file m).code 0 a.reads.fine,
      eq-eqb (change_fault (cell_chart cell) (file_change file)).code 0 (acceptable_tested a.rules),
      eq-eqb (chart_topology made).code 0 (sound_tested made a.result),
      fits_tested made a.limits,
      lt-ltb o (length (held_of made)) short,
    )
