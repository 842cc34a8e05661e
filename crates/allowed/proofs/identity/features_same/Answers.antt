-- Test by test.
use Rattle.allowed.proofs.IdentityLaws.{pairs}
use Rattle.allowed.proofs.identity.features_same.Goals as goal

pub returns-then-foid_of : goal.returns-then-foid_of
returns-then-foid_of c = search pairs depth 12

pub returns-then-prim_of : goal.returns-then-prim_of
returns-then-prim_of c = search pairs depth 12

pub returns-then-grup_of : goal.returns-then-grup_of
returns-then-grup_of c = search pairs depth 12

pub returns : goal.returns
returns c = search pairs depth 12
