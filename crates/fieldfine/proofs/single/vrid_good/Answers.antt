-- Each way out is one rule.
use Rattle.fieldfine.proofs.PlaceLaws.{vrid_no, vrid_yes}
use Rattle.std.proofs.Common.{rules}
use Rattle.fieldfine.proofs.single.vrid_good.Goals as goal

pub returns-then-not-is_vector : goal.returns-then-not-is_vector
returns-then-not-is_vector c = vrid_no

pub returns-then-not-rcid_good : goal.returns-then-not-rcid_good
returns-then-not-rcid_good c = vrid_no

pub returns-then-not-rver_good : goal.returns-then-not-rver_good
returns-then-not-rver_good c = vrid_no

pub returns : goal.returns
returns c = search (rules, vrid_yes)
