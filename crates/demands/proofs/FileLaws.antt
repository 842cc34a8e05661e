-- What a readable cell and a readable update mean: a good chart, a good change. Assumes nothing.
use Prim.Native.Nat.{ℕ}
use mathlib.Core.List.{List}
use Rattle.reader.specs.Reader.{count_in}
use Rattle.held.specs.Good.{GoodChart}
use Rattle.held.proofs.CellLaws.{cell_told}
use Rattle.changes.specs.Good.{GoodChange}
use Rattle.changes.proofs.ToldLaws.{update_told}
use Rattle.reader.proofs.ReaderLaws.{cell_parts, update_parts}
use Rattle.readboth.proofs.CallLaws.{front_opened}
use Rattle.loader.specs.Admit.{cell_chart}
use Rattle.demands.specs.Cell.{Bytes, Readable}
use Rattle.loader.specs.Apply.{changes_in, file_change}
use Rattle.demands.specs.Update.{ReadableUpdate}

-- ---- a readable cell
pub cell_good : (s : List ℕ) → Bytes s → Readable s → GoodChart (cell_chart s)
cell_good s bytes r =
    let f = front_opened 1 s (count_in s) r.opened in
    let t = cell_parts s (count_in s) r.fine in
    (cell_told s (count_in s) f.framed f.short bytes.small t.0 t.1).good

-- ---- a readable update
pub change_good : (file : List ℕ) → Bytes file → ReadableUpdate file → GoodChange (file_change file)
change_good file bytes r =
    let f = front_opened 2 file (changes_in file) r.opened in
    let t = update_parts file (changes_in file) r.fine in
    (update_told file (changes_in file) f.framed f.short bytes.small t.0 t.1).good
