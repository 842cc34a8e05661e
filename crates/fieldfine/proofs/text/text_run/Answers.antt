-- A run of plain bytes is one at every level.
use Rattle.fieldfine.proofs.text.text_run.Goals as goal

pub returns-then-d-i-lt160 : goal.returns-then-d-i-lt160
returns-then-d-i-lt160 c = (c.level_run-i.ensures.0 _ (λ e. cc), c.level_run-i.ensures.1)

pub returns : goal.returns
returns c = (c.level_run.ensures.0 _ (λ e. c.if-not-high.false), c.level_run.ensures.1)
