-- The two numbers of the name, put together.
use Rattle.lookups.proofs.LookupLaws.{name_in_read}
use Rattle.lookups.proofs.lookup.name_in.Goals as goal

pub returns : goal.returns
returns c = name_in_read _ _ _ _ c.get1.ensures c.rank_of-rank.ensures.0 c.get4-rcid.ensures
