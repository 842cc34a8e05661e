-- The levels change behind the record of DSID and DSSI alone.
use Rattle.std.proofs.Common.{◌∙◌, rules}
use Rattle.chart.proofs.ReadLaws.{levels_in, passed_first, passed_later}
use Rattle.chart.proofs.read.passed.Goals as goal

pub levels_at-l-requires : goal.levels_at-l-requires
levels_at-l-requires c = search (rules, levels_in)

pub returns-then-stage-eq0 : goal.returns-then-stage-eq0
returns-then-stage-eq0 c = passed_first _ _ _ _ _ _ c.next_stage-next.ensures c.is_feature.ensures _ _
    c.if-stage-eq0.true (c.wide.ensures.0 ∙ c.levels_at-l.ensures.0)
    (c.wide-then-stage-eq0.ensures.0 ∙ c.levels_at-l.ensures.1)

pub returns : goal.returns
returns c = passed_later _ _ _ _ _ _ c.next_stage-next.ensures c.is_feature.ensures c.if-stage-eq0.false
