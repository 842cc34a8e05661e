-- FRID: "b11,b14,2b11,2b12,b11", RCNM RCID PRIM GRUP OBJL RVER RUIN. Assumes nothing.
use Rattle.std.specs.Prelude.{ℕ, Bool, ◌||◌, List, eqb}
use Rattle.octets.specs.Number.{byte_at, num_at}
use Rattle.values.specs.Fault.{fault_at, first}
use Rattle.values.specs.Rule.{rcid_good, rver_good, ruin_good}
use Rattle.values.specs.Class.{objl_good}
use Rattle.table.specs.Offsets.{RCID, FRID_PRIM, FRID_OBJL, FRID_RVER, FRID_RUIN}

-- "PRIM 1, 2, 3, 255"
unfoldable pub prim_good : ℕ → Bool
prim_good b = eqb b 1 || (eqb b 2 || (eqb b 3 || eqb b 255))

-- "RCNM .. 100 feature", "RCID 1 to 4,294,967,294", "PRIM 1, 2, 3, 255", OBJL, "RVER from 1", "RUIN 1 in cells; .."; GRUP is free
unfoldable pub frid_fault : Bool → List ℕ → ℕ
frid_fault update s =
    first (fault_at 0 (eqb (byte_at s 0) 100))
    (first (fault_at RCID (rcid_good s RCID))
    (first (fault_at FRID_PRIM (prim_good (byte_at s FRID_PRIM)))
    (first (fault_at FRID_OBJL (objl_good (num_at s FRID_OBJL 2)))
    (first (fault_at FRID_RVER (rver_good s FRID_RVER))
    (fault_at FRID_RUIN (ruin_good update (byte_at s FRID_RUIN)))))))
