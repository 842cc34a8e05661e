-- Document 01's table of fields: tag, formats and labels, with the shape of the entries and the place in the record. Record 0 is checked
-- against it, records are laid out by it, and the held form's record 0 is written from it. Assumes nothing.
use Rattle.std.specs.Prelude.{ℕ, suc, ◌+◌, ◌*◌, Bool, true, false, cond, List, [], ◌∷◌, get_or, eqb}
use Prim.Native.String.{String}
use Rattle.table.specs.Text.{bytes}
use Rattle.table.specs.declared.Kind.{Kind}

-- a row: the tag; the formats and the labels as document 01 writes them; the fixed bytes of a group and whether a text ends it; whether
-- the group repeats, so that the field is a list; whether it is a control, which only updates have; the kind of record (0 that of DSID,
-- 1 that of DSPM, 2 a vector, 3 a feature) and the place among its fields, fields of one place being alternatives. DSID, with texts in three
-- places, is filled by a rule of its own (`dsid_laid`), and its fixed bytes and text here are not used
pub record Row : Type 0 where
  pub tag : String
  pub formats : String
  pub labels : String
  pub fixed : ℕ
  pub text : Bool
  pub list : Bool
  pub control : Bool
  pub group : ℕ
  pub order : ℕ

row : String → String → String → ℕ → Bool → Bool → Bool → ℕ → ℕ → Row
row t f l n x r c g o = record { tag = t; formats = f; labels = l; fixed = n; text = x; list = r; control = c; group = g; order = o }

unfoldable pub table : List Row
unfolding row
table =
    row "DSID" "(b11,b14,2b11,3A,2A(8),R(4),b11,2A,b11,b12,A)" "RCNM!RCID!EXPP!INTU!DSNM!EDTN!UPDN!UADT!ISDT!STED!PRSP!PSDN!PRED!PROF!AGEN!COMT" 7 true false false 0 1
    ∷ row "DSSI" "(3b11,8b14)" "DSTR!AALL!NALL!NOMR!NOCR!NOGR!NOLR!NOIN!NOCN!NOED!NOFA" 35 false false false 0 2
    ∷ row "DSPM" "(b11,b14,3b11,b14,4b11,2b14,A)" "RCNM!RCID!HDAT!VDAT!SDAT!CSCL!DUNI!HUNI!PUNI!COUN!COMF!SOMF!COMT" 24 true false false 1 1
    ∷ row "VRID" "(b11,b14,b12,b11)" "RCNM!RCID!RVER!RUIN" 8 false false false 2 1
    ∷ row "ATTV" "(b12,A)" "*ATTL!ATVL" 2 true true false 2 2
    ∷ row "VRPC" "(b11,2b12)" "VPUI!VPIX!NVPT" 5 false false true 2 3
    ∷ row "VRPT" "(B(40),4b11)" "*NAME!ORNT!USAG!TOPI!MASK" 9 false true false 2 4
    ∷ row "SGCC" "(b11,2b12)" "CCUI!CCIX!CCNC" 5 false false true 2 5
    ∷ row "SG2D" "(2b24)" "*YCOO!XCOO" 8 false true false 2 6
    ∷ row "SG3D" "(3b24)" "*YCOO!XCOO!VE3D" 12 false true false 2 6
    ∷ row "FRID" "(b11,b14,2b11,2b12,b11)" "RCNM!RCID!PRIM!GRUP!OBJL!RVER!RUIN" 12 false false false 3 1
    ∷ row "FOID" "(b12,b14,b12)" "AGEN!FIDN!FIDS" 8 false false false 3 2
    ∷ row "ATTF" "(b12,A)" "*ATTL!ATVL" 2 true true false 3 3
    ∷ row "NATF" "(b12,A)" "*ATTL!ATVL" 2 true true false 3 4
    ∷ row "FFPC" "(b11,2b12)" "FFUI!FFIX!NFPT" 5 false false true 3 5
    ∷ row "FFPT" "(B(64),b11,A)" "*LNAM!RIND!COMT" 9 true true false 3 6
    ∷ row "FSPC" "(b11,2b12)" "FSUI!FSIX!NSPT" 5 false false true 3 7
    ∷ row "FSPT" "(B(40),3b11)" "*NAME!ORNT!USAG!MASK" 8 false true false 3 8
    ∷ []

-- the fields by their number in the table
abbrev pub DSID : ℕ
DSID = 0

abbrev pub DSSI : ℕ
DSSI = 1

abbrev pub DSPM : ℕ
DSPM = 2

abbrev pub VRID : ℕ
VRID = 3

abbrev pub ATTV : ℕ
ATTV = 4

abbrev pub VRPC : ℕ
VRPC = 5

abbrev pub VRPT : ℕ
VRPT = 6

abbrev pub SGCC : ℕ
SGCC = 7

abbrev pub SG2D : ℕ
SG2D = 8

abbrev pub SG3D : ℕ
SG3D = 9

abbrev pub FRID : ℕ
FRID = 10

abbrev pub FOID : ℕ
FOID = 11

abbrev pub ATTF : ℕ
ATTF = 12

abbrev pub NATF : ℕ
NATF = 13

abbrev pub FFPC : ℕ
FFPC = 14

abbrev pub FFPT : ℕ
FFPT = 15

abbrev pub FSPC : ℕ
FSPC = 16

abbrev pub FSPT : ℕ
FSPT = 17

-- behind the table: 0001, which stands first in every record but record 0; and every other tag, 0000 among them
abbrev pub first : ℕ
first = 18

abbrev pub unknown : ℕ
unknown = 19

-- how many kinds that makes
abbrev pub kind_count : ℕ
kind_count = 20

-- the four bytes of a tag as a number, the first the highest
unfoldable pub as_number : List ℕ → ℕ → ℕ
as_number [] led = led
as_number (b ∷ bs) led = as_number bs (led * 256 + b)

-- row k; past the table, 0001: two bytes that are free. A kind past `first` is of no tag that may stand anywhere: record 0 and the places of fields
-- refuse it before its row is asked for
unfoldable pub row_of : ℕ → Row
unfolding row
row_of k = get_or table k (row "0001" "(b12)" "" 2 false false false 9 0)

unfoldable pub tag_of : ℕ → ℕ
tag_of k = as_number (bytes (row_of k).tag) 0

-- which row of these has this tag, the rows being counted from k on
unfoldable pub among : List Row → ℕ → ℕ → ℕ
among [] k t = cond (eqb t 808464433) first unknown
among (r ∷ rs) k t = cond (eqb t (as_number (bytes r.tag) 0)) k (among rs (suc k) t)

-- the field of a tag, by its number
unfoldable pub kind_of : ℕ → ℕ
kind_of t = among table 0 t

-- what the row says of the layout, as the code keeps it
abbrev pub kind_row : ℕ → Kind
kind_row k = record {
  fixed = (row_of k).fixed;
  unit = cond (row_of k).text 1 0;
  list = (row_of k).list;
  control = (row_of k).control;
  group = (row_of k).group;
  order = (row_of k).order;
}
