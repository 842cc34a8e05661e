-- The cell, then the update behind its words, then all words copied up.
use Rattle.std.proofs.Common.{refl, arith, rules}
use Rattle.readonce.proofs.CellLaws.{read_all}
use Rattle.bothonce.proofs.TogetherLaws.{held_three, held_few, come_few, both_all}
use Rattle.bothonce.proofs.both.both_once.Goals as goal

pub overflow_sub-held : goal.overflow_sub-held
overflow_sub-held c = held_three (read_all {n = c.in_ok-n.n} _ c.cell_read.ensures (search rules))

pub overflow_add-n : goal.overflow_add-n
overflow_add-n c = omega (
  arith,
  held_few (read_all {n = c.in_ok-n.n} _ c.cell_read.ensures (search rules)),
  come_few c.update_from-m.ensures.placed_told c.if-m-eq0.false,
)

pub overflow_mul-n : goal.overflow_mul-n
overflow_mul-n c = omega (
  arith,
  held_few (read_all {n = c.in_ok-n.n} _ c.cell_read.ensures (search rules)),
  come_few c.update_from-m.ensures.placed_told c.if-m-eq0.false,
)

pub returns : goal.returns
returns c =
    let so = read_all {n = c.in_ok-n.n} _ c.cell_read.ensures (search rules) in
    let room = c.if-work-n.false in
    let size = c.raise.auto.work in
    both_all so refl c.update_from-m.ensures.placed_told c.if-m-eq0.false
    c.update_from-m.ensures.work_unchanged c.raise.ensures (omega arith)
