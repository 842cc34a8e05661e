-- The same as `spatial_near`: shape first, then the name.
use Rattle.quickfeatures.proofs.NameLaws.{spatial_no, spatial_told}
use Rattle.std.proofs.Common.{rules}
use Rattle.quickfeatures.proofs.trod.edge_near.Goals as goal

pub returns-then-not-spatial_good : goal.returns-then-not-spatial_good
returns-then-not-spatial_good c = search (rules, spatial_no)

pub returns : goal.returns
returns c = search (rules, spatial_told)
