-- Each way out has its law.
use Rattle.spans.proofs.StrideLaws.{span_within}
use Rattle.quickfeatures.proofs.FeatureLaws.{spatials_no, spatials_bare, spatials_named, spatials_ringed}
use Rattle.std.proofs.Common.{rules}
use Rattle.quickfeatures.proofs.spatials_quick.Goals as goal

pub returns-then-to-from : goal.returns-then-to-from
returns-then-to-from c = search (rules, spatials_no)

pub returns-then-not-collection : goal.returns-then-not-collection
returns-then-not-collection c = search (rules, spatials_no)

pub returns-then-prim-eq255 : goal.returns-then-prim-eq255
returns-then-prim-eq255 c = search (rules, spatials_bare)

pub returns-then-collection : goal.returns-then-collection
returns-then-collection c = search (rules, spatials_no)

pub returns-then-not-spatial_count : goal.returns-then-not-spatial_count
returns-then-not-spatial_count c = search (rules, spatials_no)

pub rings_quick-requires : goal.rings_quick-requires
rings_quick-requires c = (search rules, search (rules, span_within), search rules)

pub returns-then-prim-eq3 : goal.returns-then-prim-eq3
returns-then-prim-eq3 c = search (rules, spatials_ringed)

pub names_quick-requires : goal.names_quick-requires
names_quick-requires c = (search rules, search (rules, span_within), search rules)

pub returns : goal.returns
returns c = search (rules, spatials_named)
