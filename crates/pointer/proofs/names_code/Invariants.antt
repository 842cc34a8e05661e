-- The code of all names is the code of those left.
use Rattle.std.proofs.Common.{◌≡◌, length}
use Rattle.words.specs.Words.{words_in}
use Rattle.items.specs.Lists.{entries_at}
use Rattle.items.specs.Cursors.{left, CursorIn}
use Rattle.lookups.specs.LookupWords.{index_of}
use Rattle.pointer.specs.Pointer.{names_code}
use Rattle.pointer.proofs.names_code.Given as goal

abbrev pub invariant-loop-from : goal.invariant-loop-from
invariant-loop-from l =
    CursorIn l.r.file.now l.r.at l.k l.c × (names_code (index_of (words_in l.work 0 l.m)) (entries_at l.r.file.now l.r.at l.k)
    ≡ names_code (index_of (words_in l.work 0 l.m)) (left l.r.file.now l.r.at l.k l.c))

abbrev pub decreases-loop-from : goal.decreases-loop-from
decreases-loop-from l = length (left l.r.file.now l.r.at l.k l.c)
