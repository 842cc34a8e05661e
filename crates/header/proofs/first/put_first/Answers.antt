-- `header::first::put_first` meets its contract: the bytes that are copied are those of the literal. Assumes nothing.
use Rattle.header.specs.Literal.{first_bytes}
use Rattle.header.proofs.FirstLaws.{first_literal}
use Rattle.header.proofs.first.put_first.Goals as goal

pub copy-requires : goal.copy-requires
copy-requires c = c.requires

pub returns : goal.returns
unfolding first_bytes
returns c = rw first_literal c.copy.ensures
