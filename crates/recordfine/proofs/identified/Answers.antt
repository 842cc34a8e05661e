-- The second row's tag.
use Rattle.recordfine.proofs.WalkLaws.{second_room, second_kind}
use Rattle.std.proofs.Common.{arith, rules}
use Rattle.recordfine.proofs.identified.Goals as goal

pub tag_at-requires : goal.tag_at-requires
tag_at-requires c = omega (arith, second_room c.requires)

pub returns : goal.returns
returns c = record { ends = search rules; starts = search rules; kinded = search (rules, second_kind) }
