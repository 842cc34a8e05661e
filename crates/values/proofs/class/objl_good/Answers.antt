-- By the three ranges in turn, one law each.
use Rattle.std.proofs.Common.{rules}
use Rattle.values.proofs.ClassLaws.{objl_geo, objl_meta, objl_last}
use Rattle.values.proofs.class.objl_good.Goals as goal

pub returns-then-is_geo : goal.returns-then-is_geo
returns-then-is_geo c = search (rules, objl_geo)

pub returns-then-is_meta : goal.returns-then-is_meta
returns-then-is_meta c = search (rules, objl_meta)

pub returns : goal.returns
returns c = search (rules, objl_last)
