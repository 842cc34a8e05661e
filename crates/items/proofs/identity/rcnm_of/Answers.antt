-- The first byte of the identifier field.
use Rattle.items.proofs.IdentityLaws.{rcnm_read}
use Rattle.items.proofs.identity.rcnm_of.Goals as goal

pub returns : goal.returns
returns c = rcnm_read _ _ _ _ c.id_at-id.ensures c.get1.ensures
