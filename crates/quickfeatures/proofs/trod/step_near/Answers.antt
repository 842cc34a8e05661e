-- By the note of the edge, which way ORNT says.
use Rattle.quickfeatures.proofs.TrodLaws.{trod_astray, trod_back, trod_forth, trod_below}
use Rattle.std.proofs.Common.{rules}
use Rattle.quickfeatures.proofs.trod.step_near.Goals as goal

pub returns-in_err-i : goal.returns-in_err-i
returns-in_err-i c = search (rules, trod_astray)

pub index_behind-next-requires : goal.index_behind-next-requires
index_behind-next-requires c = search (rules, trod_below)

pub returns-then-e-eq2 : goal.returns-then-e-eq2
returns-then-e-eq2 c = search (rules, trod_back)

pub returns : goal.returns
returns c = search (rules, trod_forth)
