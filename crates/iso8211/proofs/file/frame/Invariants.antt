-- The invariant: the verdict from the start is the verdict from here.
use Rattle.std.proofs.Common.{suc, ◌≤◌, ◌-◌, ◌≡◌, length}
use Rattle.iso8211.specs.File.{frame_of, framed_from}
use Rattle.iso8211.proofs.file.frame.Given as goal

abbrev pub invariant-loop-end : goal.invariant-loop-end
invariant-loop-end l = (l.k ≤ l.at) × (l.at ≤ length l.file) × (frame_of l.file ≡ framed_from (suc (length l.file - l.k)) l.file l.at l.k)

abbrev pub decreases-loop-end : goal.decreases-loop-end
decreases-loop-end l = length l.file - l.at
