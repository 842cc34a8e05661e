-- A record of a framed file, for a walk over its fields. Assumes nothing.
use Prim.Native.Nat.{ℕ, ◌+◌, ◌≤◌, ◌<◌}
use mathlib.Core.List.{List}
use mathlib.Core.Path.{◌≡◌}
use native.Mathlib.Omega.{arith}
use lib.ListN.{length}
use Rattle.iso8211.specs.Field.{field_at}
use Rattle.iso8211.specs.Premises.{HeadOf, RecordIn}
use Rattle.iso8211.specs.declared.field.Field.{Field}
use Rattle.iso8211.specs.declared.field.Head.{Head}

-- a field ends within the file
pub field_ends : (s : List ℕ) (at k : ℕ) (h : Head) (f : Field) → RecordIn s at → HeadOf s at h → k < h.count → f ≡ field_at s at k → f.start + f.length ≤ length s
field_ends s at k h f so head less is =
    let count = head.count in
    let within = (so.fields k (omega arith)).within in
    let fits = so.framed.fits in
    rw is (omega arith)
