-- The rule of all entries is the rule of those left.
use Rattle.std.proofs.Common.{◌≡◌, length}
use Rattle.entries.specs.Rules.{all_of}
use Rattle.items.specs.Lists.{entries_at}
use Rattle.items.specs.Cursors.{left, CursorIn}
use Rattle.vectorshape.specs.Shape.{pair_good}
use Rattle.vectorshape.proofs.coordinate.pairs_good.Given as goal

abbrev pub invariant-loop-from : goal.invariant-loop-from
invariant-loop-from l = CursorIn l.r.file.now l.r.at l.k l.c × (all_of (pair_good l.comf) (entries_at l.r.file.now l.r.at l.k)
    ≡ all_of (pair_good l.comf) (left l.r.file.now l.r.at l.k l.c))

abbrev pub decreases-loop-from : goal.decreases-loop-from
decreases-loop-from l = length (left l.r.file.now l.r.at l.k l.c)
