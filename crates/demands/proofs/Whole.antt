-- Demand 2 in the form that demand 3 takes: of good charts of bytes. `whole_back`, `whole_admitted`, `whole_updated`, beside `admit_writes`, `accepted_exactly`,
-- `apply_writes` and `updated_once`. Assumes nothing.
use Prim.Native.Nat.{ℕ}
use mathlib.Core.List.{List}
use mathlib.Core.Path.{◌≡◌}
use Rattle.held.specs.Chart.{Chart}
use Rattle.held.specs.Held.{held_of}
use Rattle.loader.specs.Admit.{admit_of, cell_chart}
use Rattle.demands.specs.Cell.{Bytes, Readable, Room}
use Rattle.loader.specs.Apply.{updated_by}
use Rattle.demands.specs.Update.{Allowed}
use Rattle.demands.specs.ByteChart.{Whole}
use Rattle.demands.proofs.HeldBytes.{held_bytes_lem}
use Rattle.demands.proofs.ChartBytes.{cell_bytes, updated_bytes}
use Rattle.demands.proofs.ReadsBack.{held_readable, held_back}
use Rattle.demands.proofs.Admit.{admitted_exactly, admitted_good}
use Rattle.demands.proofs.Updated.{updated_good}

-- what is written is a file of bytes, readable, and means the chart
pub whole_back : (c : Chart) → Whole c → Bytes (held_of c) × Readable (held_of c) × (cell_chart (held_of c) ≡ c)
whole_back c g = let good = g.good in (held_bytes_lem c good.values good.limits g.bytes, held_readable c good, held_back c good)

pub whole_admitted : (cell : List ℕ) (w o : ℕ) → Bytes cell
    → ((admit_of cell w o).code ≡ 0 → Readable cell × Whole (cell_chart cell) × Room cell w o)
    × (Readable cell × Whole (cell_chart cell) × Room cell w o → (admit_of cell w o).code ≡ 0)
whole_admitted cell w o bytes = (
  λ h.
      let a = (admitted_exactly cell w o bytes).0 h in
      (a.readable, record { good = admitted_good cell w o bytes h; bytes = cell_bytes cell bytes }, a.areas),
  λ p. (admitted_exactly cell w o bytes).1 (record { readable = p.0; sound = p.1.good.sound; limits = p.1.good.limits; areas = p.2 }),
)

pub whole_updated : (c : Chart) (file : List ℕ) → Bytes file → Whole c → Allowed c file → Whole (updated_by c file)
whole_updated c file bytes g a = record { good = updated_good c file bytes g.good.values a; bytes = updated_bytes c file bytes g.bytes }
