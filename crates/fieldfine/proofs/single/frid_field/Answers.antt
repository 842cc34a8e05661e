-- Its place by the tests, then its values by its fault.
use Rattle.std.proofs.Common.{rules}
use Rattle.fieldfine.proofs.PlaceLaws.{identifier_so}
use Rattle.fieldfine.proofs.single.frid_field.Goals as goal

pub returns : goal.returns
returns c = search (rules, identifier_so)
