-- The topology of a file is that of its chart. Assumes nothing.
use Prim.Native.Nat.{ℕ, ◌≤◌, ◌<◌}
use mathlib.Core.Bool.{false}
use mathlib.Core.List.{List}
use mathlib.Core.Path.{◌≡◌, ap, ◌∙◌}
use lib.ListN.{length}
use Rattle.std.specs.Prelude.{Ok}
use Rattle.octets.specs.Number.{byte_at}
use Rattle.iso8211.specs.File.{frame_of}
use Rattle.chart.specs.Read.{read_fault}
use Rattle.names.specs.Names.{twice_of}
use Rattle.topology.specs.Topology.{topology_fault}
use Rattle.held.specs.Chart.{Chart, chart_of}
use Rattle.held.specs.Held.{held_of}
use Rattle.held.specs.Limits.{Fits, record_count}
use Rattle.held.specs.Good.{GoodChart}
use Rattle.held.proofs.ReadsBack.{reads_back}
use Rattle.held.proofs.CellLaws.{cell_told}
use Rattle.verdict.specs.Verdict.{chart_topology}
use Rattle.verdict.proofs.VerdictLaws.{chart_verdict}

-- of a cell without a refusal of codes 1, 2 and 4 to 7
pub cell_topology : (s : List ℕ) (n : ℕ) → frame_of s ≡ Ok n → length s ≤ 5242880 → ((i : ℕ) → byte_at s i < 256) → (read_fault false s n).code ≡ 0 → (twice_of false s n).index ≡ 0
    → (topology_fault s n).code ≡ (chart_topology (chart_of s n)).code
cell_topology s n framed short small fault once = chart_verdict s n (cell_told s n framed short small fault once).good

-- of what is written for a good chart that fits
pub held_topology : (c : Chart) → GoodChart c → Fits c → (topology_fault (held_of c) (record_count c)).code ≡ (chart_topology c).code
held_topology c good fit =
    let b = reads_back c good fit in
    chart_verdict (held_of c) (record_count c) (rw b.back good) ∙ ap (λ (x : Chart). (chart_topology x).code) b.back
