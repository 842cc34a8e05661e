-- Refused at once, or read to the end; the area is cleared in both.
use Rattle.std.proofs.Common.{ℕ, ap, ◌∙◌, replicate, rules}
use Rattle.readboth.proofs.CallLaws.{counted, both_refused, both_read_on}
use Rattle.readboth.proofs.read.read_both.Goals as goal
use Rattle.readboth.proofs.read.read_both.Goals.{in-Ok, in-Err}

pub update_opened-a-requires : goal.update_opened-a-requires
update_opened-a-requires c = counted 1 _ _ _ c.opened.ensures (search rules)

pub returns : goal.returns
returns c = record {
  value =
      elim c.match-opened.branch [
        | in-Ok w ↦ both_read_on _ _ _ _ _ c.opened.ensures _ w.in-Ok.is (w.a-is ∙ w.update_opened-a.ensures)
        | in-Err w ↦ w.a-is ∙ both_refused _ _ _ _ _ c.opened.ensures w.in-Err.is
      ];
  work_after = c.clear.ensures ∙ ap (λ (k : ℕ). replicate k 0) c.match-opened.auto.work;
}
