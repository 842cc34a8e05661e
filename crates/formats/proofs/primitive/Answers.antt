-- The first byte decides which primitive it is.
use Rattle.std.proofs.Common.{arith, rules}
use Rattle.formats.proofs.FormatsLaws.{letter_some, primitive_binary, primitive_sized, primitive_none}
use Rattle.formats.proofs.primitive.Goals as goal

pub returns-then-b-eq98 : goal.returns-then-b-eq98
returns-then-b-eq98 c = search (rules, primitive_binary)

pub sized-requires : goal.sized-requires
sized-requires c = let h = letter_some _ _ c.is_letter.ensures c.if-is_letter.true in omega arith

pub returns-then-is_letter : goal.returns-then-is_letter
returns-then-is_letter c = search (rules, primitive_sized)

pub returns : goal.returns
returns c = search (rules, primitive_none)
