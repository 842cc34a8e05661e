-- By its tests. Assumes nothing.
use Rattle.reissue.specs.Plan.{within_limits}
use Rattle.octets.proofs.Tests.{tests}
use Rattle.reissue.proofs.plan.within_limits.Goals as goal
use Rattle.reissue.proofs.plan.within_limits.Goals.{then-n-le-MOST_RECORDS, else-n-le-MOST_RECORDS}

pub returns-then-most-le-LONGEST_RECORD : goal.returns-then-most-le-LONGEST_RECORD
unfolding within_limits
returns-then-most-le-LONGEST_RECORD c = search tests

pub returns-else-most-le-LONGEST_RECORD : goal.returns-else-most-le-LONGEST_RECORD
unfolding within_limits
returns-else-most-le-LONGEST_RECORD c =
    elim c.if-n-le-MOST_RECORDS.branch [ then-n-le-MOST_RECORDS w ↦ search tests | else-n-le-MOST_RECORDS w ↦ search tests ]
