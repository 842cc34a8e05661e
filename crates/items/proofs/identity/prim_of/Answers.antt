-- The byte of FRID at 5.
use Rattle.items.proofs.IdentityLaws.{prim_read}
use Rattle.items.proofs.identity.prim_of.Goals as goal

pub returns : goal.returns
returns c = prim_read _ _ _ _ c.id_at-id.ensures c.get1.ensures
