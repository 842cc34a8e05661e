-- A text up to its 1F, or, in an update, 7F alone.
use Rattle.std.proofs.Common.{refl, rules}
use Rattle.fieldfine.proofs.TextLaws.{attribute_not, attribute_so, attribute_update}
use Rattle.fieldfine.proofs.text.attribute_len.Goals as goal

pub returns-then-d-at-lt4 : goal.returns-then-d-at-lt4
returns-then-d-at-lt4 c = attribute_not refl

pub returns-then-d-end-eq31 : goal.returns-then-d-end-eq31
returns-then-d-end-eq31 c = search (rules, attribute_so)

pub returns-then-update : goal.returns-then-update
returns-then-update c = search (rules, attribute_update)

pub returns : goal.returns
returns c = attribute_not refl
