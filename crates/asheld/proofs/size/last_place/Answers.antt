-- A row before the 1E that ends the directory.
use Rattle.asheld.proofs.SizeLaws.{last_at}
use Rattle.std.proofs.Common.{rules}
use Rattle.asheld.proofs.size.last_place.Goals as goal

pub returns : goal.returns
returns c = search (rules, last_at)
