-- The second and third byte of DSSI.
use Rattle.std.proofs.Common.{◌∙◌, rules}
use Rattle.chart.proofs.ReadLaws.{levels_in}
use Rattle.readonce.proofs.record.levels.Goals as goal

pub levels_at-l-requires : goal.levels_at-l-requires
levels_at-l-requires c = search (rules, levels_in)

pub returns : goal.returns
returns c = (c.wide.ensures.0 ∙ c.levels_at-l.ensures.0, c.wide-2.ensures.0 ∙ c.levels_at-l.ensures.1)
