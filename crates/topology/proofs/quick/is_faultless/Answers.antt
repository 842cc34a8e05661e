-- What the front of the record tells is what the quick test of a feature asks for; any other item is seen as on the way to its note.
use Rattle.topology.proofs.QuickLaws.{feature_id, feature_class, feature_reached, drawn_quick}
use Rattle.topology.proofs.SeenLaws.{read_ranked, noted_names, seen_quick}
use Rattle.std.proofs.Common.{rules}
use Rattle.topology.proofs.quick.is_faultless.Goals as goal

pub seen_at-seen-requires : goal.seen_at-seen-requires
seen_at-seen-requires c = (search (rules, read_ranked), search (rules, noted_names), search rules)

pub returns-in_default : goal.returns-in_default
returns-in_default c = search (rules, seen_quick)

pub feature_quick-requires : goal.feature_quick-requires
feature_quick-requires c = (search (rules, feature_reached), search rules, search (rules, feature_id), search (rules, feature_class), search rules)

pub returns : goal.returns
returns c = search (rules, drawn_quick)
