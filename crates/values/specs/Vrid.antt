-- VRID: "b11,b14,b12,b11", RCNM RCID RVER RUIN. Assumes nothing.
use Rattle.std.specs.Prelude.{ℕ, Bool, ◌||◌, List, eqb}
use Rattle.octets.specs.Number.{byte_at}
use Rattle.values.specs.Fault.{fault_at, first}
use Rattle.values.specs.Rule.{rcid_good, rver_good, ruin_good}
use Rattle.table.specs.Offsets.{RCID, VRID_RVER, VRID_RUIN}

-- "110 isolated node, 120 connected node, 130 edge"
unfoldable pub is_vector : ℕ → Bool
is_vector rcnm = eqb rcnm 110 || (eqb rcnm 120 || eqb rcnm 130)

-- "RCNM .. 110 .., 120 .., 130", "RCID 1 to 4,294,967,294", "RVER from 1", "RUIN 1 in cells; RUIN 1 insert, 2 delete, 3 modify in updates"
unfoldable pub vrid_fault : Bool → List ℕ → ℕ
vrid_fault update s =
    first (fault_at 0 (is_vector (byte_at s 0)))
    (first (fault_at RCID (rcid_good s RCID))
    (first (fault_at VRID_RVER (rver_good s VRID_RVER))
    (fault_at VRID_RUIN (ruin_good update (byte_at s VRID_RUIN)))))
