-- Too long, or record 0 broken, or its end.
use Rattle.reader.proofs.FrontLaws.{start_long, start_broken, start_found}
use Rattle.reader.proofs.front.started.Goals as goal

pub returns-then-s-gt-MOST_BYTES : goal.returns-then-s-gt-MOST_BYTES
returns-then-s-gt-MOST_BYTES c = start_long _ _ _ c.if-s-gt-MOST_BYTES.true c.answered.ensures

pub returns-in_default : goal.returns-in_default
returns-in_default c = start_broken _ _ c.if-s-gt-MOST_BYTES.false _ c.in_default.ensures.0 c.answered-in_default.ensures

pub returns : goal.returns
returns c = start_found _ _ c.if-s-gt-MOST_BYTES.false _ c.in-Some.ensures.0
