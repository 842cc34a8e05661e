-- The bytes copied are the header's.
use Rattle.table.specs.Text.{bytes}
use Rattle.listingrows.specs.Text.{header_text}
use Rattle.std.proofs.Common.{rules}
use Rattle.listingrows.proofs.text.put_header.Goals as goal

pub returns : goal.returns
unfolding header_text bytes
returns c = search rules
