-- The table agrees with itself: two claims, each computed over all of it. Assumes nothing.
use mathlib.Core.Bool.{true}
use mathlib.Core.List.{List, [], ◌∷◌}
use mathlib.Core.Path.{◌≡◌, refl}
use Rattle.table.specs.Text.{bytes}
use Rattle.table.specs.Table.{table, row_of, as_number, DSID, DSPM, VRID, FRID, DSSI, VRPT, FSPT, FFPT, ATTV, ATTF, NATF, SG2D, SG3D, VRPC, SGCC, FFPC, FSPC}
use Rattle.table.specs.Offsets.{RCID, DSID_EXPP, DSID_INTU, DSID_DSNM, DSSI_AALL, DSSI_NALL, DSSI_NOMR, DSSI_NOCR, DSSI_NOGR, DSSI_NOLR, DSSI_NOIN, DSSI_NOCN, DSSI_NOED}
use Rattle.table.specs.Offsets.{DSSI_NOFA, DSPM_HDAT, DSPM_DUNI, DSPM_HUNI, DSPM_PUNI, DSPM_COUN, DSPM_COMF, DSPM_SOMF, DSPM_COMT, VRID_RVER, VRID_RUIN, FRID_PRIM}
use Rattle.table.specs.Offsets.{FRID_GRUP, FRID_OBJL, FRID_RVER, FRID_RUIN, VRPT_ORNT, VRPT_USAG, VRPT_TOPI, VRPT_MASK, FSPT_ORNT, FSPT_USAG, FSPT_MASK, FFPT_RIND}
use Rattle.table.specs.Offsets.{FFPT_COMT, ATVL, XCOO, control_index, control_count}
use Rattle.table.specs.Widths.{written, is_digit, count_after, letter_after, size_after, primitives_from, is_text, width_of, fixed_of, text_of, list_of, labels_from, same}
use Rattle.table.specs.Widths.{shape_follows, shapes_follow, offset_in, Subfield, subfield, offset_follows, offsets_follow}

-- fixed bytes, text mark and list mark of all rows follow from their formats and labels
pub shapes_follow_lem : shapes_follow table ≡ true
unfolding bytes table written is_digit count_after letter_after size_after primitives_from is_text width_of fixed_of text_of list_of labels_from same shape_follows shapes_follow
shapes_follow_lem = refl

-- every offset that a definition names
unfoldable pub subfields : List Subfield
subfields =
    subfield DSID "RCID" RCID
    ∷ subfield DSPM "RCID" RCID
    ∷ subfield VRID "RCID" RCID
    ∷ subfield FRID "RCID" RCID
    ∷ subfield DSID "EXPP" DSID_EXPP
    ∷ subfield DSID "INTU" DSID_INTU
    ∷ subfield DSID "DSNM" DSID_DSNM
    ∷ subfield DSSI "AALL" DSSI_AALL
    ∷ subfield DSSI "NALL" DSSI_NALL
    ∷ subfield DSSI "NOMR" DSSI_NOMR
    ∷ subfield DSSI "NOCR" DSSI_NOCR
    ∷ subfield DSSI "NOGR" DSSI_NOGR
    ∷ subfield DSSI "NOLR" DSSI_NOLR
    ∷ subfield DSSI "NOIN" DSSI_NOIN
    ∷ subfield DSSI "NOCN" DSSI_NOCN
    ∷ subfield DSSI "NOED" DSSI_NOED
    ∷ subfield DSSI "NOFA" DSSI_NOFA
    ∷ subfield DSPM "HDAT" DSPM_HDAT
    ∷ subfield DSPM "DUNI" DSPM_DUNI
    ∷ subfield DSPM "HUNI" DSPM_HUNI
    ∷ subfield DSPM "PUNI" DSPM_PUNI
    ∷ subfield DSPM "COUN" DSPM_COUN
    ∷ subfield DSPM "COMF" DSPM_COMF
    ∷ subfield DSPM "SOMF" DSPM_SOMF
    ∷ subfield DSPM "COMT" DSPM_COMT
    ∷ subfield VRID "RVER" VRID_RVER
    ∷ subfield VRID "RUIN" VRID_RUIN
    ∷ subfield FRID "PRIM" FRID_PRIM
    ∷ subfield FRID "GRUP" FRID_GRUP
    ∷ subfield FRID "OBJL" FRID_OBJL
    ∷ subfield FRID "RVER" FRID_RVER
    ∷ subfield FRID "RUIN" FRID_RUIN
    ∷ subfield VRPT "ORNT" VRPT_ORNT
    ∷ subfield VRPT "USAG" VRPT_USAG
    ∷ subfield VRPT "TOPI" VRPT_TOPI
    ∷ subfield VRPT "MASK" VRPT_MASK
    ∷ subfield FSPT "ORNT" FSPT_ORNT
    ∷ subfield FSPT "USAG" FSPT_USAG
    ∷ subfield FSPT "MASK" FSPT_MASK
    ∷ subfield FFPT "RIND" FFPT_RIND
    ∷ subfield FFPT "COMT" FFPT_COMT
    ∷ subfield ATTV "ATVL" ATVL
    ∷ subfield ATTF "ATVL" ATVL
    ∷ subfield NATF "ATVL" ATVL
    ∷ subfield SG2D "XCOO" XCOO
    ∷ subfield SG3D "XCOO" XCOO
    ∷ subfield VRPC "VPIX" control_index
    ∷ subfield VRPC "NVPT" control_count
    ∷ subfield SGCC "CCIX" control_index
    ∷ subfield SGCC "CCNC" control_count
    ∷ subfield FFPC "FFIX" control_index
    ∷ subfield FFPC "NFPT" control_count
    ∷ subfield FSPC "FSIX" control_index
    ∷ subfield FSPC "NSPT" control_count
    ∷ []

-- each is the sum of the widths before its label
pub offsets_follow_lem : offsets_follow subfields ≡ true
unfolding bytes table row_of as_number written is_digit count_after letter_after size_after primitives_from width_of labels_from offset_in subfields offset_follows offsets_follow
offsets_follow_lem = refl
