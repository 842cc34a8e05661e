-- Each test of a digit is a test of the definition.
use Rattle.formats.proofs.FormatsLaws.{binary_tens, binary_ones, binary_both}
use Rattle.std.proofs.Common.{rules}
use Rattle.formats.proofs.binary.Goals as goal
use Rattle.formats.proofs.binary.Goals.{then-not-counting-via-then-not-counting, then-not-counting-via-else-not-counting+then-not-counting-2}

pub returns-then-not-counting : goal.returns-then-not-counting
returns-then-not-counting c =
    elim c.then-not-counting.branch [
      | then-not-counting-via-then-not-counting w ↦ search (rules, binary_tens)
      | then-not-counting-via-else-not-counting+then-not-counting-2 w ↦ search (rules, binary_ones)
    ]

pub returns : goal.returns
returns c = search (rules, binary_both)
