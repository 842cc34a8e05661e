-- A cell and its chart get one verdict. Assumes nothing.
use Prim.Native.Nat.{ℕ}
use mathlib.Core.List.{List}
use mathlib.Core.Path.{◌≡◌, refl, sym}
use native.Mathlib.Omega.{arith}
use Rattle.octets.specs.Number.{num_at}
use Rattle.iso8211.specs.Field.{field_at}
use Rattle.iso8211.specs.File.{record_at}
use Rattle.layout.specs.Layout.{content_of}
use Rattle.headvalues.proofs.DspmLaws.{dspm_is_laid}
use Rattle.layout.specs.General.{comf_at}
use Rattle.topology.specs.Topology.{located, topology_fault}
use Rattle.itemfields.proofs.ViewLaws.{piece_number}
use Rattle.held.specs.Chart.{header_of, chart_of}
use Rattle.held.specs.Good.{GoodChart}
use Rattle.verdict.specs.Verdict.{chart_topology}

-- COMF of the file is COMF of its chart
pub comf_seen : (s : List ℕ) (n : ℕ) → GoodChart (chart_of s n) → num_at (header_of s).dspm 16 4 ≡ comf_at s
unfolding chart_of header_of comf_at
comf_seen s n good =
    let f = field_at s (record_at s 2) 1 in
    let long = (dspm_is_laid (content_of s f) good.dspm_is_laid).long in
    sym (piece_number s f (content_of s f) 16 4 refl (omega arith))

pub chart_verdict : (s : List ℕ) (n : ℕ) → GoodChart (chart_of s n) → (topology_fault s n).code ≡ (chart_topology (chart_of s n)).code
unfolding topology_fault located chart_topology chart_of
chart_verdict s n good = rw (comf_seen s n good)
