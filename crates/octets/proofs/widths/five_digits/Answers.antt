-- Two digits and three.
use Rattle.octets.proofs.WidthLaws.{five_so}
use Rattle.std.proofs.Common.{rules}
use Rattle.octets.proofs.widths.five_digits.Goals as goal

pub returns : goal.returns
returns c = search (rules, five_so)
