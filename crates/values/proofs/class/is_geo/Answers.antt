-- Every call answers its part of the definition; the whole is their composition.
use Rattle.std.proofs.Common.{rules}
use Rattle.values.specs.Class.{is_geo}
use Rattle.values.proofs.class.is_geo.Goals as goal

pub returns : goal.returns
unfolding is_geo
returns c = search rules
