-- The controls of a record of an update as the code reads them. Nothing here need be believed. Assumes nothing.
use Rattle.std.specs.Prelude.{ℕ, cond, ◌||◌, List, [], ◌⊎◌, ◌≡◌, length, eqb}
use Rattle.std.proofs.Math.Option.{Option, none}
use Rattle.table.specs.Table.{VRPT, SG2D, SG3D, FFPT, FSPT}
use Rattle.items.specs.Lists.{list_at}
use Rattle.edits.specs.Control as edits

-- "b11,2b12": it doesn't stand, or has five bytes
pub record ControlSize (s : List ℕ) (at k : ℕ) : Type 0 where
  pub is : (list_at s at k ≡ []) ⊎ (length (list_at s at k) ≡ 5)

-- which list SGCC means, by the bytes of the lists
unfoldable pub coordinates_by : List ℕ → ℕ → List ℕ → ℕ → ℕ
coordinates_by cell at update by =
    cond (eqb (length (list_at cell at SG2D)) 0)
    (cond (eqb (length (list_at cell at SG3D)) 0) (cond (eqb (length (list_at update by SG3D)) 0) SG2D SG3D) SG3D) SG2D

-- the control of list k
unfoldable pub chosen : ℕ → Option edits.Control → Option edits.Control → ℕ → Option edits.Control
chosen k first second coordinates =
    cond (eqb k VRPT || eqb k FFPT) first (cond (eqb k FSPT || eqb k coordinates) second none)
