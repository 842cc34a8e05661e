-- Its place first, then its entries.
use Rattle.std.proofs.Common.{refl, rules}
use Rattle.fieldfine.proofs.PlaceLaws.{attributes_not, attributes_so}
use Rattle.fieldfine.proofs.place.attributes_field.Goals as goal

pub returns-then-not-list_stands : goal.returns-then-not-list_stands
returns-then-not-list_stands c = attributes_not refl

pub returns-then-not-attributes_fine : goal.returns-then-not-attributes_fine
returns-then-not-attributes_fine c = attributes_not refl

pub returns : goal.returns
returns c = search (rules, attributes_so)
