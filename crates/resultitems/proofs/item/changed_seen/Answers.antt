-- What the cell's record shows where no control comes, else what the record shows that was built.
use Rattle.resultitems.proofs.ItemLaws.{stood_seen}
use Rattle.resultitems.proofs.SparedLaws.{changed_ranked, seen_foid, changed_classed, seen_kept, built_ranked}
use Rattle.std.proofs.Common.{rules}
use Rattle.resultitems.proofs.item.changed_seen.Goals as goal

pub note_at-requires : goal.note_at-requires
note_at-requires c = search (rules, changed_ranked)

pub returns-then-rank-eq3 : goal.returns-then-rank-eq3
returns-then-rank-eq3 c = (search (rules, seen_foid), search rules)

pub has_control-requires : goal.has_control-requires
has_control-requires c = search (rules, changed_classed)

pub seen_at-requires : goal.seen_at-requires
seen_at-requires c = (search (rules, changed_ranked), search rules, search rules)

pub returns-then-not-has_control : goal.returns-then-not-has_control
returns-then-not-has_control c = (search (rules, seen_kept), search rules)

pub seen_at-requires-2 : goal.seen_at-requires-2
seen_at-requires-2 c = (search (rules, built_ranked), search rules, search rules)

pub returns : goal.returns
returns c = (search (rules, stood_seen), search rules)
