-- The invariant: the list of each kind is the bytes of its place and what comes from field j on.
use Rattle.iso8211.specs.Premises.{Due}
use Rattle.lying.specs.Lying.{LainTo}
use Rattle.lying.proofs.lie.Given as goal

abbrev pub invariant-loop-j : goal.invariant-loop-j
invariant-loop-j l = Due l.r.file.now l.r.at l.j l.due × LainTo l.r.file.now l.r.at l.j l.l
