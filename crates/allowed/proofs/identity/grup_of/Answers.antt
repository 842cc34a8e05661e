-- The byte of FRID at 6.
use Rattle.allowed.proofs.IdentityLaws.{grup_read}
use Rattle.allowed.proofs.identity.grup_of.Goals as goal

pub returns : goal.returns
returns c = grup_read _ _ _ _ c.id_at-id.ensures c.get1.ensures
