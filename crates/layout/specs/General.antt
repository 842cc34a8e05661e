-- The general records of a file, and what is read of them: record 1, "0001 DSID DSSI", and in a cell record 2, "0001 DSPM". Assumes nothing.
use Rattle.std.specs.Prelude.{ℕ, ◌+◌, ◌-◌, ◌*◌, List}
use Rattle.octets.specs.Number.{byte_at, num_at}
use Rattle.octets.specs.Digits.{number_at}
use Rattle.iso8211.specs.Field.{field_at}
use Rattle.iso8211.specs.File.{record_at}
use Rattle.dataset.specs.Dsid.{dsnm_end, edtn_end, updn_end}
use Rattle.table.specs.Offsets.{DSSI_AALL, DSSI_NALL, DSSI_NOMR, DSPM_COMF}

-- ---- of a DSID d, without its closing 1E
-- EDTN and UPDN as numbers, each between two 1F
unfoldable pub edition_in : List ℕ → ℕ
edition_in d = number_at d (dsnm_end d + 1) (edtn_end d - (dsnm_end d + 1))

unfoldable pub number_in : List ℕ → ℕ
number_in d = number_at d (edtn_end d + 1) (updn_end d - (edtn_end d + 1))

-- ---- of the DSSI of the record at `at`
-- AALL and NALL, the levels
unfoldable pub aall_at : List ℕ → ℕ → ℕ
aall_at s at = byte_at s ((field_at s at 2).start + DSSI_AALL)

unfoldable pub nall_at : List ℕ → ℕ → ℕ
nall_at s at = byte_at s ((field_at s at 2).start + DSSI_NALL)

-- count i of the DSSI of a file, NOMR being count 0: four bytes each
unfoldable pub dssi_count : List ℕ → ℕ → ℕ
dssi_count s i = num_at s ((field_at s (record_at s 1) 2).start + (DSSI_NOMR + 4 * i)) 4

-- ---- of the DSPM of a cell
-- COMF, by which its coordinates are multiplied: four bytes of DSPM, which is field 1 of record 2
unfoldable pub comf_at : List ℕ → ℕ
comf_at s = num_at s ((field_at s (record_at s 2) 1).start + DSPM_COMF) 4
