-- Its place first, then its entries.
use Rattle.std.proofs.Common.{refl, rules}
use Rattle.fieldfine.proofs.PlaceLaws.{pointers_not, pointers_so}
use Rattle.fieldfine.proofs.place.pointers_field.Goals as goal

pub returns-then-not-list_stands : goal.returns-then-not-list_stands
returns-then-not-list_stands c = pointers_not refl

pub returns-then-not-pointers_fine : goal.returns-then-not-pointers_fine
returns-then-not-pointers_fine c = pointers_not refl

pub returns : goal.returns
returns c = search (rules, pointers_so)
