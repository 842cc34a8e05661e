-- Between rings and in a ring the verdict from here is the verdict from the start; the edges left grow fewer.
use Rattle.std.proofs.Common.{◌≡◌, false, ◌≤◌, length}
use Rattle.table.specs.Table.{FSPT}
use Rattle.words.specs.Words.{words_in}
use Rattle.items.specs.Lists.{entries_at}
use Rattle.items.specs.Cursors.{left, CursorIn}
use Rattle.lookups.specs.LookupWords.{index_of}
use Rattle.names.specs.Premises.{Noted}
use Rattle.ring.specs.Walk.{node_at, area_closed, named_and, behind}
use Rattle.ring.specs.Ring.{rings_from}
use Rattle.ring.proofs.rings_closed.Given as goal

abbrev pub invariant-loop-starts : goal.invariant-loop-starts
invariant-loop-starts l = CursorIn l.r.file.now l.r.at FSPT l.c
    × (area_closed (index_of (words_in l.work 0 l.m)) (node_at (words_in l.work 0 l.m) (words_in l.work l.m l.v)) (entries_at l.r.file.now l.r.at FSPT)
    ≡ named_and (index_of (words_in l.work 0 l.m)) (left l.r.file.now l.r.at FSPT l.c)
    (behind (node_at (words_in l.work 0 l.m) (words_in l.work l.m l.v)) l.exterior l.start l.t (left l.r.file.now l.r.at FSPT l.c)))
    × (length (left l.r.file.now l.r.at FSPT l.c) ≤ length (left l.r.file.now l.r.at FSPT l.initial.c)) × Noted l.work l.m l.v

abbrev pub decreases-loop-starts : goal.decreases-loop-starts
decreases-loop-starts l = length (left l.r.file.now l.r.at FSPT l.c)

abbrev pub invariant-rings : goal.invariant-rings
invariant-rings l = CursorIn l.r.file.now l.r.at FSPT l.c
    × (area_closed (index_of (words_in l.work 0 l.m)) (node_at (words_in l.work 0 l.m) (words_in l.work l.m l.v)) (entries_at l.r.file.now l.r.at FSPT)
    ≡ named_and (index_of (words_in l.work 0 l.m)) (left l.r.file.now l.r.at FSPT l.c)
    (rings_from (node_at (words_in l.work 0 l.m) (words_in l.work l.m l.v)) l.exterior false 0 0 (left l.r.file.now l.r.at FSPT l.c)))

abbrev pub decreases-rings : goal.decreases-rings
decreases-rings l = length (left l.r.file.now l.r.at FSPT l.c)
