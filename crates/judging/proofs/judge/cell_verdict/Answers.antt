-- Reading left what the topology asks for.
use Rattle.judging.proofs.JudgeLaws.{read_readable, read_comf, read_verdict}
use Rattle.std.proofs.Common.{rules}
use Rattle.judging.proofs.judge.cell_verdict.Goals as goal

pub topology_fault-requires : goal.topology_fault-requires
topology_fault-requires c = (search (rules, read_readable), search (rules, read_comf), c.requires.words, c.requires.room)

pub returns : goal.returns
returns c = record {
  value = search (rules, read_verdict);
  held_in = search rules;
}
