-- Refused in reading, or the verdict and what comes of it.
use Rattle.std.proofs.Common.{◌∙◌, rules}
use Rattle.readonce.proofs.CellLaws.{read_all, read_refused}
use Rattle.loader.proofs.AdmitLaws.{settling, admit_along, refused_both}
use Rattle.loader.proofs.admit.admitted.Goals as goal

pub cell_verdict-r-requires : goal.cell_verdict-r-requires
cell_verdict-r-requires c = read_all _ c.cell_read.ensures (search rules)

pub settled-requires : goal.settled-requires
settled-requires c =
    let so = read_all {n = c.in-Ok.n} _
    c.cell_read.ensures (search rules) in
    settling so c.cell_verdict-r.auto.work c.cell_verdict-r.ensures.value
    c.cell_verdict-r.ensures.held_in

pub returns-in-Err : goal.returns-in-Err
returns-in-Err c = record {
  value = (refused_both _ (read_refused _ c.cell_read.ensures c.in-Err.is) c.args.out.now).0;
  out_after = (refused_both _ (read_refused _ c.cell_read.ensures c.in-Err.is) c.args.out.now).1;
}

pub returns-in-Ok : goal.returns-in-Ok
returns-in-Ok c = record {
  value = (admit_along _ _ (c.cell_verdict-r.auto.work ∙
      c.cell_read.auto.work)
      (c.settled.ensures.value, c.settled.ensures.out_after)).0;
  out_after = (admit_along _ _ (c.cell_verdict-r.auto.work ∙
      c.cell_read.auto.work)
      (c.settled.ensures.value, c.settled.ensures.out_after)).1;
}
