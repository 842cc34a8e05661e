use Rattle.std.proofs.Common.{arith}
use Rattle.octets.proofs.DigitsLaws.{fewest_log}
use Rattle.octets.proofs.digits.fewest_digits.Goals as goal

pub returns : goal.returns
returns c = (fewest_log _ _ _ c.max.ensures c.ilog10.ensures.power_le c.ilog10.ensures.next_power_gt, (omega arith, omega arith))
