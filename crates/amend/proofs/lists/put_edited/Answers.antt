-- A list that stays is copied, another edited.
use Rattle.std.proofs.Common.{rules}
use Rattle.amend.proofs.EditLaws.{sides_room, joined_ready, joined_room, joined_put, sides_areas, stays_room, stays_put}
use Rattle.amend.proofs.lists.put_edited.Goals as goal

pub put-requires : goal.put-requires
put-requires c = (search rules, search (rules, stays_room))

pub returns-then-stays : goal.returns-then-stays
returns-then-stays c = (search (rules, stays_put), search rules)

pub put_sides-s-requires : goal.put_sides-s-requires
put_sides-s-requires c = (search rules, search rules, search (rules, sides_room))

pub put_joined-requires : goal.put_joined-requires
put_joined-requires c = (search (rules, joined_ready), search rules, search rules, search rules, search (rules, joined_room))

pub returns : goal.returns
returns c = (search (rules, joined_put), search (rules, sides_areas))
