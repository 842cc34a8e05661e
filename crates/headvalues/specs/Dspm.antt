-- DSPM: "b11,b14,3b11,b14,4b11,2b14,A", RCNM RCID HDAT VDAT SDAT CSCL DUNI HUNI PUNI COUN COMF SOMF COMT. Assumes nothing.
use Rattle.std.specs.Prelude.{ℕ, ◌+◌, Bool, false, List, length, eqb}
use Rattle.octets.specs.Number.{byte_at, num_at}
use Rattle.values.specs.Fault.{fault_at, first}
use Rattle.headvalues.specs.Text.{text_in, text_end}
use Rattle.values.specs.Rule.{within, rcid_good}
use Rattle.table.specs.Offsets.{RCID, DSPM_HDAT, DSPM_DUNI, DSPM_HUNI, DSPM_PUNI, DSPM_COUN, DSPM_COMF, DSPM_SOMF, DSPM_COMT}

-- the same as a test
unfoldable pub dspm_laid : List ℕ → Bool
dspm_laid s = eqb (text_end s DSPM_COMT + 1) (length s)

-- "RCNM 10, 20 ..", here 20, and "HDAT 2"; VDAT, SDAT and CSCL are free
unfoldable pub datum_fault : List ℕ → ℕ
datum_fault s =
    first (fault_at 0 (eqb (byte_at s 0) 20)) (first (fault_at RCID (rcid_good s RCID)) (fault_at DSPM_HDAT (eqb (byte_at s DSPM_HDAT) 2)))

-- "DUNI, HUNI, PUNI, COUN 1"
unfoldable pub units_fault : List ℕ → ℕ
units_fault s =
    first (fault_at DSPM_DUNI (eqb (byte_at s DSPM_DUNI) 1))
    (first (fault_at DSPM_HUNI (eqb (byte_at s DSPM_HUNI) 1))
    (first (fault_at DSPM_PUNI (eqb (byte_at s DSPM_PUNI) 1))
    (fault_at DSPM_COUN (eqb (byte_at s DSPM_COUN) 1))))

-- "COMF 1 to 10,000,000"
abbrev pub most_comf : ℕ
most_comf = 10000000

-- "COMF 1 to 10,000,000; SOMF 10", and COMT
unfoldable pub factors_fault : List ℕ → ℕ
factors_fault s =
    first (fault_at DSPM_COMF (within 1 most_comf (num_at s DSPM_COMF 4)))
    (first (fault_at DSPM_SOMF (eqb (num_at s DSPM_SOMF 4) 10))
    (fault_at DSPM_COMT (text_in false s DSPM_COMT (text_end s DSPM_COMT))))

-- the fault of a DSPM
unfoldable pub dspm_fault : List ℕ → ℕ
dspm_fault s = first (datum_fault s) (first (units_fault s) (factors_fault s))
