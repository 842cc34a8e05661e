-- Four bytes of the identifier field, from 1 on.
use Rattle.items.proofs.IdentityLaws.{rcid_read}
use Rattle.items.proofs.identity.rcid_of.Goals as goal

pub returns : goal.returns
returns c = rcid_read _ _ _ _ c.id_at-id.ensures c.get4.ensures
