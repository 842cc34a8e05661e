-- What is seen is what the record shows, wherever it stands.
use Rattle.resultitems.proofs.ItemLaws.{new_stood, kept_stood, stood_ranked, stood_seen}
use Rattle.std.proofs.Common.{rules}
use Rattle.resultitems.proofs.item.seen_of.Goals as goal

pub seen_at-requires : goal.seen_at-requires
seen_at-requires c = (search (rules, stood_ranked, new_stood), search rules, search rules)

pub returns-then-a-eq1-2 : goal.returns-then-a-eq1-2
returns-then-a-eq1-2 c = (search (rules, stood_seen, new_stood), search rules)

pub seen_at-requires-2 : goal.seen_at-requires-2
seen_at-requires-2 c = (search (rules, stood_ranked, kept_stood), search rules, search rules)

pub returns : goal.returns
returns c = (search (rules, stood_seen, kept_stood), search rules)
