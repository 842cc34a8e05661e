-- Each way out has its law: 0001 in front, then RCNM, then VRID.
use Rattle.spans.proofs.SpanLaws.{front_other, front_room, front_feature, front_vector}
use Rattle.std.proofs.Common.{rules}
use Rattle.spans.proofs.front_of.Goals as goal

pub returns-then-tag-ne-FIRST : goal.returns-then-tag-ne-FIRST
returns-then-tag-ne-FIRST c = search (rules, front_other)

pub get1-requires : goal.get1-requires
get1-requires c = search (rules, front_room)

pub returns-then-get1-eq100 : goal.returns-then-get1-eq100
returns-then-get1-eq100 c = search (rules, front_feature)

pub returns-then-tag-ne-VRID : goal.returns-then-tag-ne-VRID
returns-then-tag-ne-VRID c = search (rules, front_other)

pub returns : goal.returns
returns c = search (rules, front_vector)
