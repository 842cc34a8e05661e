-- Apply on the held form of a chart, in the chart's terms: what an allowed update makes of it, that it isn't taken twice, and that one which doesn't follow is refused.
-- Assumes nothing.
use Prim.Native.Nat.{ℕ, ◌+◌, ◌*◌, ◌≤◌}
use mathlib.Core.List.{List, ◌++◌}
use mathlib.Core.Path.{◌≡◌, sym, ap, ◌∙◌}
use native.Mathlib.Omega.{arith}
use lib.ListN.{length, drop}
use borrow.Author.Tests.{le-ltb, eq-eqb}
use Rattle.iso8211.specs.File.{record_at}
use Rattle.answers.specs.Answer.{refusal, answer, filed}
use Rattle.answers.specs.First.{first_by}
use Rattle.reader.specs.Reader.{fronted, work_answer, cell_fault, update_fault, count_in}
use Rattle.held.specs.Chart.{Chart}
use Rattle.held.specs.Held.{held_of}
use Rattle.held.specs.Limits.{record_count}
use Rattle.changes.specs.Amend.{change_fault, placed_in}
use Rattle.loader.specs.Apply.{apply_of, apply_area, changes_in, file_change, updated_by}
use Rattle.loader.specs.Admit.{cell_chart}
use Rattle.demands.specs.Cell.{Bytes, Readable}
use Rattle.demands.specs.Update.{ReadableUpdate, Allowed}
use Rattle.demands.specs.ByteChart.{Whole}
use Rattle.demands.proofs.ReadsBack.{held_count}
use Rattle.demands.proofs.Apply.{accepted_exactly, apply_writes, apply_again}
use Rattle.demands.proofs.Whole.{whole_back, whole_updated}

-- readable files of which the second doesn't follow: 11, whatever the output
refused_eleven : (cell file : List ℕ) → Readable cell → ReadableUpdate file → change_fault (cell_chart cell) (file_change file) ≡ refusal 11 1 0
    → (w o : ℕ) → 16 * (count_in cell + changes_in file) ≤ w → apply_of cell file w o ≡ answer 11 2 1 0 (record_at file 1)
unfolding apply_of fronted work_answer first_by filed placed_in
refused_eleven cell file r u e w o work =
    rw (
      r.opened,
      u.opened,
      le-ltb w (16 * (count_in cell + changes_in file)) work,
      eq-eqb (cell_fault cell (count_in cell)).code 0 r.fine,
      eq-eqb (update_fault file (changes_in file)).code 0 u.fine,
      e,
    )

-- a good chart of bytes, and its held form
module _ (c : Chart) (whole : Whole c) (cell : List ℕ) (is : held_of c ≡ cell) where
  pub held_is_bytes : Bytes cell
  held_is_bytes = rw is at (whole_back c whole).0

  pub held_is_readable : Readable cell
  held_is_readable = rw is at (whole_back c whole).1

  pub held_means : cell_chart cell ≡ c
  held_means = ap cell_chart (sym is) ∙ (whole_back c whole).2

  pub held_records : count_in cell ≡ record_count c
  held_records = ap count_in (sym is) ∙ held_count c whole.good

  pub not_following : (file : List ℕ) → ReadableUpdate file → change_fault c (file_change file) ≡ refusal 11 1 0
      → (w o : ℕ) → 16 * (record_count c + changes_in file) ≤ w → apply_of cell file w o ≡ answer 11 2 1 0 (record_at file 1)
  not_following file u e w o work =
      refused_eleven cell file held_is_readable u (ap (λ (x : Chart). change_fault x (file_change file)) held_means ∙ e) w o (omega (arith, held_records))

  -- an update that is allowed on it, and the held form of what comes of it
  module _ (file : List ℕ) (these : Bytes file) (allowed : Allowed c file) (next : List ℕ) (becomes : held_of (updated_by c file) ≡ next) where
    pub next_whole : Whole (updated_by c file)
    next_whole = whole_updated c file these whole allowed

    same_result : held_of (updated_by (cell_chart cell) file) ≡ next
    same_result = ap (λ (x : Chart). held_of (updated_by x file)) held_means ∙ becomes

    allowed_here : Allowed (cell_chart cell) file
    allowed_here = rw held_means allowed

    pub accepted_here : (w o : ℕ) → 16 * (record_count c + changes_in file) ≤ w → length next ≤ o → (apply_of cell file w o).code ≡ 0
    accepted_here w o work room =
        (accepted_exactly cell file w o these held_is_readable).1
        (allowed_here, record { work = omega (arith, held_records); output = omega (arith, ap length same_result) })

    pub written_here : (w : ℕ) (out : List ℕ) → 16 * (record_count c + changes_in file) ≤ w → length next ≤ length out
        → (apply_of cell file w (length out) ≡ answer 0 0 0 (length next) 0) × (apply_area cell file w out ≡ next ++ drop (length next) out)
    written_here w out work room =
        let t = apply_writes cell file w out (accepted_here w (length out) work room) in
        (rw same_result at t.answered, rw same_result at t.area)

    pub again_here : (w o : ℕ) → 16 * (record_count (updated_by c file) + changes_in file) ≤ w → apply_of next file w o ≡ answer 11 2 1 0 (record_at file 1)
    again_here w o work =
        ap (λ (s : List ℕ). apply_of s file w o) (sym same_result)
        ∙ apply_again cell file held_is_bytes these (16 * (record_count c + changes_in file)) (length next) (accepted_here _ _ (omega arith) (omega arith)) w o (rw held_means work)
