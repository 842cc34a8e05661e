-- The first number and the rest of the line, joined.
use Rattle.listingrows.proofs.TextLaws.{line_first, line_rest, line_wrote}
use Rattle.std.proofs.Common.{rules}
use Rattle.listingrows.proofs.text.put_line.Goals as goal

pub put_number-next-requires : goal.put_number-next-requires
put_number-next-requires c = search (rules, line_first)

pub put_tabbed-requires : goal.put_tabbed-requires
put_tabbed-requires c = search (rules, line_rest)

pub returns : goal.returns
returns c = search (rules, line_wrote)
