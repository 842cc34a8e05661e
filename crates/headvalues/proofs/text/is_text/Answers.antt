-- By the ranges of bytes, one law each.
use Rattle.std.proofs.Common.{arith}
use Rattle.headvalues.proofs.TextLaws.{text_low, text_plain, text_between, text_high}
use Rattle.headvalues.proofs.text.is_text.Goals as goal

pub returns-in-32-to-126 : goal.returns-in-32-to-126
returns-in-32-to-126 c = text_plain _ _ (omega arith) (omega arith)

pub returns-in-160-to-255 : goal.returns-in-160-to-255
returns-in-160-to-255 c = text_high _ _ (omega arith) (omega arith)

pub returns-in_default : goal.returns-in_default
returns-in_default c = text_low _ _ (omega arith)

pub returns-in_default-2 : goal.returns-in_default-2
returns-in_default-2 c = text_between _ _ (omega arith) (omega arith)
