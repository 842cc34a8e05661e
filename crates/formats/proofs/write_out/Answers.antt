-- Four levels are left at the start.
use Rattle.formats.specs.Formats.{written_at}
use Rattle.std.proofs.Common.{rules}
use Rattle.formats.proofs.write_out.Goals as goal

pub returns : goal.returns
unfolding written_at
returns c = search rules
