-- Refused at once, or read to the end; the area is cleared in both.
use Rattle.std.proofs.Common.{ℕ, ap, ◌∙◌, replicate, rules}
use Rattle.readboth.proofs.CallLaws.{counted, cell_refused, cell_read_on}
use Rattle.readboth.proofs.read.read_cell.Goals as goal
use Rattle.readboth.proofs.read.read_cell.Goals.{in-Ok, in-Err}

pub cell_checked-a-requires : goal.cell_checked-a-requires
cell_checked-a-requires c = counted 1 _ _ _ c.opened.ensures (search rules)

pub returns : goal.returns
returns c = record {
  value =
      elim c.match-opened.branch [
        | in-Ok w ↦ cell_read_on _ _ _ _ c.opened.ensures _ w.in-Ok.is (w.a-is ∙ w.cell_checked-a.ensures)
        | in-Err w ↦ w.a-is ∙ cell_refused _ _ _ _ c.opened.ensures w.in-Err.is
      ];
  work_after = c.clear.ensures ∙ ap (λ (k : ℕ). replicate k 0) c.match-opened.auto.work;
}
