-- Its place first, then its groups.
use Rattle.std.proofs.Common.{refl, rules}
use Rattle.fieldfine.proofs.PlaceLaws.{groups_not, groups_so}
use Rattle.fieldfine.proofs.place.groups_field.Goals as goal

pub returns-then-not-list_stands : goal.returns-then-not-list_stands
returns-then-not-list_stands c = groups_not refl

pub returns-then-not-groups_fine : goal.returns-then-not-groups_fine
returns-then-not-groups_fine c = groups_not refl

pub returns : goal.returns
returns c = search (rules, groups_so)
