-- The words in held order, the names and the counts.
use Rattle.readonce.proofs.CellLaws.{all_readable, all_three, all_dssi, all_tally, all_framed, all_words, all_room, all_held, all_twice, all_counts, all_fine}
use Rattle.readonce.proofs.cell.passed_fault.Goals as goal

pub overflow_sub-n : goal.overflow_sub-n
overflow_sub-n c = all_three c.requires

pub twice-requires : goal.twice-requires
twice-requires c = (
  all_readable c.requires,
  all_room
      c.requires c.sort.ensures,
  all_words
      c.requires c.sort.ensures,
)

pub returns-in-Some-clause-value : goal.returns-in-Some-clause-value
returns-in-Some-clause-value c = all_twice c.requires c.twice.ensures _ c.in-Some.is c.refuse.ensures

pub tally_counts-requires : goal.tally_counts-requires
tally_counts-requires c = (
  all_readable c.requires,
  all_dssi
      c.requires,
  all_tally c.requires,
)

pub record_end-requires : goal.record_end-requires
record_end-requires c = all_framed c.requires

pub returns-then-not-tally_counts-clause-value : goal.returns-then-not-tally_counts-clause-value
returns-then-not-tally_counts-clause-value c =
    all_counts c.requires c.twice.ensures c.in_default.is _ c.tally_counts.ensures _ _ c.if-not-tally_counts.true-raw c.record_end.ensures.0
    c.refuse-then-not-tally_counts.ensures

pub returns-clause-value : goal.returns-clause-value
returns-clause-value c = all_fine c.requires c.twice.ensures c.in_default.is _ c.tally_counts.ensures c.if-not-tally_counts.false-raw

pub returns-clause-held_in : goal.returns-clause-held_in
returns-clause-held_in c = λ z. all_held c.requires c.sort.ensures
