-- A field of a framed record lies in the file. Assumes nothing.
use Rattle.fronts.proofs.FrontLaws.{field_there}
use Rattle.std.proofs.Common.{rules}
use Rattle.fronts.proofs.front.field_in.Goals as goal

pub returns : goal.returns
returns c = search (rules, field_there)
