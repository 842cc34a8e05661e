-- COMF is the number at 16 of DSPM.
use Rattle.std.proofs.Common.{rules}
use Rattle.layout.proofs.GeneralLaws.{comf_told, comf_few}
use Rattle.layout.proofs.general.comf_of.Goals as goal

pub returns : goal.returns
returns c = (search (rules, comf_told), search (rules, comf_few))
