-- Of a feature the note alone.
use Rattle.topology.proofs.SeenLaws.{seen_note}
use Rattle.std.proofs.Common.{rules}
use Rattle.topology.proofs.seen.seen_at.Goals as goal

pub returns-then-rank-eq3 : goal.returns-then-rank-eq3
returns-then-rank-eq3 c = search (rules, seen_note)
