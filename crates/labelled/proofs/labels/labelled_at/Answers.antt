use Rattle.std.proofs.Common.{rules}
use Rattle.attributes.proofs.PartLaws.{attribute_long}
use Rattle.labelled.proofs.labels.labelled_at.Goals as goal

pub label_at-requires : goal.label_at-requires
label_at-requires c = (search (rules, attribute_long), search rules)

pub returns : goal.returns
returns c = record {
  size = search rules;
  some = c.if-n-eq0.false;
  long = search (rules, attribute_long);
  within = search rules;
  told = search rules;
  low = search rules;
}
