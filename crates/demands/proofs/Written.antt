-- Demand 2 of the bytes that the calls wrote: as many of the output's first bytes as Number says. `admit_written`: they read back as the chart of the cell.
-- `apply_written`: they read back as the cell's chart with the update done, so that what no record of the file names is there as it was, and what one names as the
-- record says. Assumes nothing.
use Prim.Native.Nat.{ℕ}
use mathlib.Core.List.{List}
use mathlib.Core.Path.{◌≡◌, ap, ap₂, ◌∙◌}
use lib.ListN.{length, take, drop}
use lib.Seq.{take-append_seam}
use Rattle.answers.specs.declared.answer.Answer.{Answer}
use Rattle.held.specs.Chart.{Chart}
use Rattle.held.specs.Held.{held_of}
use Rattle.loader.specs.Admit.{admit_of, cell_chart}
use Rattle.loader.specs.Apply.{apply_of, updated_by}
use Rattle.demands.specs.Cell.{Bytes}
use Rattle.demands.specs.Update.{Allowed}
use Rattle.demands.specs.Verdict.{Good}
use Rattle.demands.specs.Written.{admitted_bytes, applied_bytes, ReadsAs, Applied}
use Rattle.demands.proofs.ReadsBack.{held_readable, held_back}
use Rattle.demands.proofs.Admit.{admit_writes, admitted_good}
use Rattle.demands.proofs.Updated.{unnamed_kept, named_done, other_kept}
use Rattle.demands.proofs.Apply.{accepted_readable, accepted_exactly, apply_writes, applied_good}

-- ---- they are the held form, and not the bytes behind it
pub admitted_held : (cell : List ℕ) (w : ℕ) (out : List ℕ) → (admit_of cell w (length out)).code ≡ 0 → admitted_bytes cell w out ≡ held_of (cell_chart cell)
admitted_held cell w out h =
    let t = admit_writes cell w out h in
    let held = held_of (cell_chart cell) in
    ap₂ take (ap (λ (x : Answer). x.number) t.answered) t.area ∙ take-append_seam held (drop (length held) out)

pub applied_held : (cell file : List ℕ) (w : ℕ) (out : List ℕ) → (apply_of cell file w (length out)).code ≡ 0
    → applied_bytes cell file w out ≡ held_of (updated_by (cell_chart cell) file)
applied_held cell file w out h =
    let t = apply_writes cell file w out h in
    let held = held_of (updated_by (cell_chart cell) file) in
    ap₂ take (ap (λ (x : Answer). x.number) t.answered) t.area ∙ take-append_seam held (drop (length held) out)

-- ---- `admit_written`: "A written re-issue reads back to the same records"
reads_as : (s : List ℕ) (c : Chart) → Good c → s ≡ held_of c → ReadsAs s c
reads_as s c good is = rw is (record { readable = held_readable c good; chart = held_back c good })

pub admit_written : (cell : List ℕ) (w : ℕ) (out : List ℕ) → Bytes cell → (admit_of cell w (length out)).code ≡ 0
    → ReadsAs (admitted_bytes cell w out) (cell_chart cell)
admit_written cell w out bytes h = reads_as (admitted_bytes cell w out) (cell_chart cell) (admitted_good cell w (length out) bytes h) (admitted_held cell w out h)

-- ---- `apply_written`
module _ (cell file : List ℕ) (w : ℕ) (out : List ℕ) (bytes : Bytes cell) (these : Bytes file) (h : (apply_of cell file w (length out)).code ≡ 0) where
  allowed : Allowed (cell_chart cell) file
  allowed = ((accepted_exactly cell file w (length out) these (accepted_readable cell file w (length out) h)).0 h).0

  written_reads : ReadsAs (applied_bytes cell file w out) (updated_by (cell_chart cell) file)
  written_reads =
      let good = applied_good cell file bytes these (accepted_readable cell file w (length out) h) allowed in
      reads_as (applied_bytes cell file w out) (updated_by (cell_chart cell) file) good (applied_held cell file w out h)

  pub apply_written : Applied cell file (applied_bytes cell file w out)
  apply_written =
      let c = cell_chart cell in
      let e = written_reads.chart in
      record {
        reads = written_reads;
        unnamed_stay = rw e (unnamed_kept c file);
        others_stay = λ n others. rw e (other_kept c file n others);
        named = rw e (named_done c file these allowed);
      }
