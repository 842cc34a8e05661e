-- Two bytes of FRID, from 7 on.
use Rattle.items.proofs.IdentityLaws.{objl_read}
use Rattle.items.proofs.identity.objl_of.Goals as goal

pub returns : goal.returns
returns c = objl_read _ _ _ _ c.id_at-id.ensures c.get2.ensures
