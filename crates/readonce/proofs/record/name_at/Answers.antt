-- The two numbers of the name, put together.
use Rattle.items.proofs.IdentityLaws.{name_read, rcnm_read, rcid_read}
use Rattle.readonce.proofs.record.name_at.Goals as goal

pub returns : goal.returns
returns c =
    let rcid = rcid_read _ _ _ _ c.requires.0 c.get4-rcid.ensures in
    name_read _ _ _ _ _ (rcnm_read _ _ _ _ c.requires.0 c.get1.ensures).0 c.rank_of-rank.ensures.0 rcid.0 rcid.1
