-- The records in front of two readable files are as the stages ask for them. Assumes nothing.
use Prim.Native.Nat.{ℕ, ◌-◌, ◌≤◌, ◌<◌}
use mathlib.Core.Bool.{Bool, true, false}
use mathlib.Core.List.{List}
use mathlib.Core.Path.{◌≡◌, refl, sym, ap, ◌∙◌}
use native.Mathlib.Omega.{arith}
use Rattle.std.specs.Prelude.{Ok}
use Rattle.octets.specs.Number.{num_at}
use Rattle.iso8211.specs.File.{frame_of, record_at}
use Rattle.iso8211.proofs.Promise.{record_in, fields_in, at_start}
use Rattle.table.specs.Table.{DSSI}
use Rattle.layout.specs.Layout.{filled}
use Rattle.layout.specs.Record.{content_at}
use Rattle.layout.proofs.Promise.{laid, laid_dsid, full_dssi, content_length}
use Rattle.declarations.specs.Described.{described_of}
use Rattle.chart.specs.Read.{read_fault}
use Rattle.chart.proofs.Promise.{good_records}
use Rattle.reader.proofs.ReaderLaws.{dspm_read, cell_parts, update_parts}
use Rattle.header.specs.Known.{Known}
use Rattle.verdict.proofs.VerdictLaws.{comf_seen}
use Rattle.held.specs.Chart.{header_of}
use Rattle.fronts.specs.Front.{DsidIn}
use Rattle.follow.specs.Headed.{Headed}
use Rattle.revisedfront.specs.Front.{Fronted}
use Rattle.held.proofs.CellLaws.{CellTold, cell_told}
use Rattle.changes.specs.Told.{UpdateTold}
use Rattle.changes.proofs.ToldLaws.{update_told}
use Rattle.layout.specs.General.{comf_at}
use Rattle.layout.specs.Premises.{DspmThere}
use Rattle.resultstages.specs.Stages.{BothReady}

-- "0001 DSID DSSI" of either kind of file
dsid_in_lem : (update : Bool) (s : List ℕ) (n : ℕ) → frame_of s ≡ Ok n → (read_fault update s n).code ≡ 0 → Known (content_at s (record_at s 1) 1) → DsidIn s (record_at s 1)
dsid_in_lem update s n framed none known =
    let at = record_at s 1 in
    let g = good_records update s n framed none in
    let two = g.1.1 in
    let one : 1 < n = omega arith in
    let here = g.0 1 (omega arith) one in
    let inside = record_in s n 1 at framed one refl in
    let state = here.stage.dsid refl in
    let out = laid update here.good.state.stage (described_of s) s at inside here.good.laid in
    let kinds = laid_dsid out state in
    let three = kinds.0 in
    let within = (inside.fields 2 (omega arith)).within in
    let fits = inside.framed.fits in
    let full : filled DSSI (content_at s at 2) ≡ true = ap (λ (k : ℕ). filled k (content_at s at 2)) (sym kinds.2) ∙ out.full 2 (omega arith) in
    record {
      inside = inside;
      third = omega arith;
      known = known;
      whole = omega (arith, full_dssi (content_at s at 2) full, content_length s at 2 (fields_in inside) (omega arith));
    }

headed : (update : Bool) (s : List ℕ) (n : ℕ) → frame_of s ≡ Ok n → (read_fault update s n).code ≡ 0 → Known (content_at s (record_at s 1) 1) → Headed s
headed update s n framed none known =
    let two = (good_records update s n framed none).1.1 in
    record { front = (record_in s n 0 0 framed (omega arith) (at_start s)).framed; dsid = dsid_in_lem update s n framed none known }

-- ---- what is known before 9 to 12
module _ {cell : List ℕ} {n : ℕ} {update : List ℕ} {m : ℕ} {work : List ℕ} (b : BothReady cell n update m work) where
  cell_tells : CellTold cell n
  cell_tells = let p = cell_parts cell n b.cell_fine in cell_told cell n b.held.framed b.held.short b.small.old p.0 p.1

  update_tells : UpdateTold update m
  update_tells = let p = update_parts update m b.update_fine in update_told update m b.come.framed b.come.short b.small.new p.0 p.1

  pub cell_headed : Headed cell
  cell_headed = headed false cell n b.held.framed (cell_parts cell n b.cell_fine).0 cell_tells.known

  pub update_headed : Headed update
  update_headed = headed true update m b.come.framed (update_parts update m b.update_fine).0 update_tells.known

  pub cell_three : 3 ≤ n
  cell_three = cell_tells.three

  pub update_two : 2 ≤ m
  update_two = update_tells.two

  pub dspm_here : DspmThere cell
  dspm_here = dspm_read cell n b.held.framed (cell_parts cell n b.cell_fine).0

  pub comf_here : num_at (header_of cell).dspm 16 4 ≡ comf_at cell
  comf_here = comf_seen cell n cell_tells.good

  pub front_here : Fronted cell update
  front_here =
      let three = cell_three in
      record {
        held = cell_headed;
        dspm = record { inside = record_in cell n 2 (record_at cell 2) b.held.framed (omega arith) refl; second = dspm_here.second };
        come = update_headed;
      }
