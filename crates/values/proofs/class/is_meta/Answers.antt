-- Every call answers its part of the definition; the whole is their composition.
use Rattle.std.proofs.Common.{rules}
use Rattle.values.specs.Class.{is_meta}
use Rattle.values.proofs.class.is_meta.Goals as goal

pub returns : goal.returns
unfolding is_meta
returns c = search rules
