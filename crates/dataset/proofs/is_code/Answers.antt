-- A letter or a digit, as the definition has it.
use Rattle.dataset.proofs.DsidLaws.{code_letter, code_other}
use Rattle.dataset.proofs.is_code.Goals as goal

pub returns-then-is_ascii_uppercase : goal.returns-then-is_ascii_uppercase
returns-then-is_ascii_uppercase c = code_letter _ _ c.is_ascii_uppercase.ensures.value c.if-is_ascii_uppercase.true

pub returns-else-is_ascii_uppercase : goal.returns-else-is_ascii_uppercase
returns-else-is_ascii_uppercase c = code_other _ _ c.is_ascii_uppercase.ensures.value c.if-is_ascii_uppercase.false _ c.is_ascii_digit.ensures.value
