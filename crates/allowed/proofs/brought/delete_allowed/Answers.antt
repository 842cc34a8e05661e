-- The ways of a feature, then those of a vector.
use Rattle.octets.proofs.Tests.{chain}
use Rattle.allowed.proofs.BroughtLaws.{delete_feature, delete_vector}
use Rattle.allowed.proofs.brought.delete_allowed.Goals as goal

pub returns-then-not-no_control : goal.returns-then-not-no_control
returns-then-not-no_control c = search (chain, delete_feature) depth 12

pub returns-then-rcnm_of-eq100 : goal.returns-then-rcnm_of-eq100
returns-then-rcnm_of-eq100 c = search (chain, delete_feature) depth 12

pub returns-then-not-no_control-2 : goal.returns-then-not-no_control-2
returns-then-not-no_control-2 c = search (chain, delete_vector) depth 12

pub returns : goal.returns
returns c = search (chain, delete_vector) depth 12
