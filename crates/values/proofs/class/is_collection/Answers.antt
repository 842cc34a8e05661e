-- Every call answers its part of the definition; the whole is their composition.
use Rattle.std.proofs.Common.{rules}
use Rattle.values.specs.Class.{is_collection}
use Rattle.values.proofs.class.is_collection.Goals as goal

pub returns : goal.returns
unfolding is_collection
returns c = search rules
