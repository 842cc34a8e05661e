-- DSSI: "3b11,8b14", DSTR AALL NALL NOMR NOCR NOGR NOLR NOIN NOCN NOED NOFA. Assumes nothing.
use Rattle.std.specs.Prelude.{ℕ, Bool, ◌||◌, List, leb, eqb}
use Rattle.octets.specs.Number.{byte_at, num_at}
use Rattle.values.specs.Fault.{fault_at, first}
use Rattle.table.specs.Offsets.{DSSI_AALL, DSSI_NALL, DSSI_NOCR, DSSI_NOFA}

-- "NOCR and NOFA 0 in cells": the four bytes of s from i on
unfoldable pub none_good : Bool → List ℕ → ℕ → Bool
none_good update s i = update || eqb (num_at s i 4) 0

-- "DSTR 2, AALL and NALL 0 or 1, NOCR and NOFA 0 in cells"
unfoldable pub dssi_fault : Bool → List ℕ → ℕ
dssi_fault update s =
    first (fault_at 0 (eqb (byte_at s 0) 2))
    (first (fault_at DSSI_AALL (leb (byte_at s DSSI_AALL) 1))
    (first (fault_at DSSI_NALL (leb (byte_at s DSSI_NALL) 1))
    (first (fault_at DSSI_NOCR (none_good update s DSSI_NOCR))
    (fault_at DSSI_NOFA (none_good update s DSSI_NOFA)))))
