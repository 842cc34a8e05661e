-- Where each subfield stands in its field or in its entry of a list, counted from 0. That each offset is the sum of the widths before the
-- label is claimed over the table itself in crates/table/proofs/Agreement.antt. Assumes nothing.
use Rattle.std.specs.Prelude.{ℕ}

-- RCID: behind RCNM in every identifier field, and in every NAME
abbrev pub RCID : ℕ
RCID = 1

-- DSID, before its first text; those behind are found by the ends of its texts
abbrev pub DSID_EXPP : ℕ
DSID_EXPP = 5

abbrev pub DSID_INTU : ℕ
DSID_INTU = 6

abbrev pub DSID_DSNM : ℕ
DSID_DSNM = 7

-- DSSI: the levels, then the counts
abbrev pub DSSI_AALL : ℕ
DSSI_AALL = 1

abbrev pub DSSI_NALL : ℕ
DSSI_NALL = 2

abbrev pub DSSI_NOMR : ℕ
DSSI_NOMR = 3

abbrev pub DSSI_NOCR : ℕ
DSSI_NOCR = 7

abbrev pub DSSI_NOGR : ℕ
DSSI_NOGR = 11

abbrev pub DSSI_NOLR : ℕ
DSSI_NOLR = 15

abbrev pub DSSI_NOIN : ℕ
DSSI_NOIN = 19

abbrev pub DSSI_NOCN : ℕ
DSSI_NOCN = 23

abbrev pub DSSI_NOED : ℕ
DSSI_NOED = 27

abbrev pub DSSI_NOFA : ℕ
DSSI_NOFA = 31

-- DSPM
abbrev pub DSPM_HDAT : ℕ
DSPM_HDAT = 5

abbrev pub DSPM_DUNI : ℕ
DSPM_DUNI = 12

abbrev pub DSPM_HUNI : ℕ
DSPM_HUNI = 13

abbrev pub DSPM_PUNI : ℕ
DSPM_PUNI = 14

abbrev pub DSPM_COUN : ℕ
DSPM_COUN = 15

abbrev pub DSPM_COMF : ℕ
DSPM_COMF = 16

abbrev pub DSPM_SOMF : ℕ
DSPM_SOMF = 20

abbrev pub DSPM_COMT : ℕ
DSPM_COMT = 24

-- VRID and FRID
abbrev pub VRID_RVER : ℕ
VRID_RVER = 5

abbrev pub VRID_RUIN : ℕ
VRID_RUIN = 7

abbrev pub FRID_PRIM : ℕ
FRID_PRIM = 5

abbrev pub FRID_GRUP : ℕ
FRID_GRUP = 6

abbrev pub FRID_OBJL : ℕ
FRID_OBJL = 7

abbrev pub FRID_RVER : ℕ
FRID_RVER = 9

abbrev pub FRID_RUIN : ℕ
FRID_RUIN = 11

-- the pointers, behind NAME or LNAM
abbrev pub VRPT_ORNT : ℕ
VRPT_ORNT = 5

abbrev pub VRPT_USAG : ℕ
VRPT_USAG = 6

abbrev pub VRPT_TOPI : ℕ
VRPT_TOPI = 7

abbrev pub VRPT_MASK : ℕ
VRPT_MASK = 8

abbrev pub FSPT_ORNT : ℕ
FSPT_ORNT = 5

abbrev pub FSPT_USAG : ℕ
FSPT_USAG = 6

abbrev pub FSPT_MASK : ℕ
FSPT_MASK = 7

abbrev pub FFPT_RIND : ℕ
FFPT_RIND = 8

abbrev pub FFPT_COMT : ℕ
FFPT_COMT = 9

-- an attribute's value, behind its label; X, behind Y; of a control its index and its count, behind the instruction
abbrev pub ATVL : ℕ
ATVL = 2

abbrev pub XCOO : ℕ
XCOO = 4

abbrev pub control_index : ℕ
control_index = 1

abbrev pub control_count : ℕ
control_count = 3
