-- Each class by its own test.
use Rattle.items.proofs.IdentityLaws.{rank_connected, rank_edge}
use Rattle.octets.proofs.Tests.{tests}
use Rattle.items.specs.Identity.{rank_of}
use Rattle.std.proofs.Common.{rules}
use Rattle.items.proofs.identity.rank_of.Goals as goal

pub returns-in-110 : goal.returns-in-110
unfolding rank_of
returns-in-110 c = search tests

pub returns-in-120 : goal.returns-in-120
returns-in-120 c = (search (rules, rank_connected), search rules)

pub returns-in-130 : goal.returns-in-130
returns-in-130 c = (search (rules, rank_edge), search rules)

pub returns-in_default : goal.returns-in_default
unfolding rank_of
returns-in_default c = search tests
