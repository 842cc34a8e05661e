-- The two numbers of the name, put together.
use Rattle.items.proofs.IdentityLaws.{name_read}
use Rattle.items.proofs.identity.name_of.Goals as goal

pub returns : goal.returns
returns c = name_read _ _ _ _ _ c.rcnm_of.ensures.0 c.rank_of-rank.ensures.0 c.rcid_of-rcid.ensures.0 c.rcid_of-rcid.ensures.1
