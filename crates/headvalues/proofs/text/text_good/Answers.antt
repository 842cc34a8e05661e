use Rattle.std.proofs.Common.{rules}
use Rattle.headvalues.proofs.TextLaws.{text_no, text_on, text_done}
use Rattle.headvalues.proofs.text.text_good.Goals as goal

pub returns-then-not-is_text : goal.returns-then-not-is_text
returns-then-not-is_text c = search (rules, text_no)

pub loop-b-preserved : goal.loop-b-preserved
loop-b-preserved c = search (rules, text_on)

pub returns : goal.returns
returns c = search (rules, text_done)
