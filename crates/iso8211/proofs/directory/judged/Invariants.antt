-- The invariant: the fields from the start are good exactly if those from row k on are, the next due at `at`.
use Rattle.std.proofs.Common.{◌≤◌, take}
use Rattle.iso8211.proofs.DirectoryLaws.{Rowing}
use Rattle.iso8211.proofs.directory.judged.Given as goal

abbrev pub invariant-loop-k : goal.invariant-loop-k
invariant-loop-k l = (l.at ≤ l.size) × Rowing l.s l.body l.size (take l.n l.batch) l.due l.k l.at
