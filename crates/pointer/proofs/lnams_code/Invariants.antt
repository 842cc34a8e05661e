-- The code of all LNAMs is the code of those left.
use Rattle.std.proofs.Common.{◌+◌, ◌-◌, ◌≡◌, length}
use Rattle.words.specs.Words.{words_in}
use Rattle.table.specs.Table.{FFPT}
use Rattle.items.specs.Lists.{entries_at}
use Rattle.items.specs.Cursors.{left, CursorIn}
use Rattle.pointer.specs.Pointer.{lnams_code}
use Rattle.pointer.specs.Premises.{held_foid}
use Rattle.pointer.proofs.lnams_code.Given as goal

abbrev pub invariant-loop-from : goal.invariant-loop-from
invariant-loop-from l =
    CursorIn l.r.file.now l.r.at FFPT l.c
    × (lnams_code (held_foid (words_in l.work (l.m + l.v) (l.m - l.v))) (entries_at l.r.file.now l.r.at FFPT)
    ≡ lnams_code (held_foid (words_in l.work (l.m + l.v) (l.m - l.v))) (left l.r.file.now l.r.at FFPT l.c))

abbrev pub decreases-loop-from : goal.decreases-loop-from
decreases-loop-from l = length (left l.r.file.now l.r.at FFPT l.c)
