-- The two ways of a byte: one of the digits, or none.
use Rattle.formats.proofs.FormatsLaws.{digit_none, digit_some}
use Rattle.std.proofs.Common.{rules}
use Rattle.formats.proofs.digit.Goals as goal

pub returns-then-b-le57 : goal.returns-then-b-le57
returns-then-b-le57 c = search (rules, digit_some)

pub returns-else-b-ge48 : goal.returns-else-b-ge48
returns-else-b-ge48 c = digit_none c.byte-b.ensures c.else-b-ge48.either
