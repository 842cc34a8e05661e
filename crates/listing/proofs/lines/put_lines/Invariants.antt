-- The invariant: of all lines, those of the words from k on are left, and each line so far took at most 80 bytes.
use Rattle.std.proofs.Common.{◌+◌, ◌*◌, ◌≤◌, drop}
use Rattle.octets.specs.Area.{Going}
use Rattle.words.specs.Words.{words_in}
use Rattle.names.specs.NameWords.{items_at}
use Rattle.listingrows.specs.Listing.{lines_from}
use Rattle.listing.proofs.lines.put_lines.Given as goal

abbrev pub invariant-loop-k : goal.invariant-loop-k
invariant-loop-k l = (l.next ≤ l.at + 80 * l.k) × Going l.initial.out l.at (lines_from 3 (items_at l.s (words_in l.work 0 l.m))) l.out l.next
    (lines_from (l.k + 3) (items_at l.s (drop l.k (words_in l.work 0 l.m))))
