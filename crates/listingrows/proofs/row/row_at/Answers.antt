-- Each number is what its reader promises, and below ten digits by its bound.
use Rattle.listingrows.proofs.ListingLaws.{row_made, row_short}
use Rattle.std.proofs.Common.{rules}
use Rattle.listingrows.proofs.row.row_at.Goals as goal

pub returns : goal.returns
returns c = (search (rules, row_made), search (rules, row_short))
