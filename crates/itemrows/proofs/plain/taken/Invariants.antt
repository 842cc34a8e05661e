-- The invariant: what the tags from here on leave of the rows from here on is what all tags leave of all rows.
use Rattle.itemrows.proofs.TakenLaws.{Taking}
use Rattle.itemrows.proofs.plain.taken.Given as goal

abbrev pub invariant-loop-tag : goal.invariant-loop-tag
invariant-loop-tag l = Taking l.r.file.now l.r.at l.from l.fn.tags l.j l.tag-index
