-- DSID: where its subfields stand, and their rules. Assumes nothing.
use Rattle.std.specs.Prelude.{ℕ, zero, suc, ◌+◌, ◌-◌, Bool, true, false, cond, not, ◌&&◌, ◌||◌, List, length, leb, eqb}
use Rattle.octets.specs.Number.{byte_at}
use Rattle.octets.specs.Digits.{is_digit, number_at}
use Rattle.values.specs.Fault.{fault_at, first}
use Rattle.headvalues.specs.Text.{text_in, text_end}
use Rattle.dates.specs.Date.{date_good}
use Rattle.values.specs.Rule.{within, rcid_good, profile_of, digits_within}
use Rattle.dataset.specs.declared.Ends.{Ends}
use Rattle.table.specs.Offsets.{RCID, DSID_EXPP, DSID_INTU, DSID_DSNM}

-- ---- where its six texts end
-- "b11,b14,2b11,3A,2A(8),R(4),b11,2A,b11,b12,A": seven bytes, DSNM, EDTN, UPDN, 21 bytes, PSDN, PRED, three bytes, COMT
abbrev pub dsnm_end : List ℕ → ℕ
dsnm_end s = text_end s DSID_DSNM

abbrev pub edtn_end : List ℕ → ℕ
edtn_end s = text_end s (dsnm_end s + 1)

abbrev pub updn_end : List ℕ → ℕ
updn_end s = text_end s (edtn_end s + 1)

abbrev pub psdn_end : List ℕ → ℕ
psdn_end s = text_end s (updn_end s + 22)

abbrev pub pred_end : List ℕ → ℕ
pred_end s = text_end s (psdn_end s + 1)

abbrev pub comt_end : List ℕ → ℕ
comt_end s = text_end s (pred_end s + 4)

unfoldable pub dsid_ends : List ℕ → Ends
dsid_ends s =
    record { dsnm = dsnm_end s; edtn = edtn_end s; updn = updn_end s; psdn = psdn_end s; pred = pred_end s; comt = comt_end s }

-- the same as a test; that the texts end one after the other is so by their making
unfoldable pub dsid_laid : List ℕ → Bool
dsid_laid s = eqb (comt_end s + 1) (length s)

-- ---- DSNM, EDTN, UPDN
-- "A-Z 0-9"
unfoldable pub is_code : ℕ → Bool
is_code b = (leb 65 b && leb b 90) || is_digit b

-- n of them from i on
unfoldable pub codes_at : ℕ → List ℕ → ℕ → Bool
codes_at zero s i = true
codes_at (suc n) s i = is_code (byte_at s i) && codes_at n s (i + 1)

-- "three digits: 000 in a cell", any in an update, where UPDN answers for them
unfoldable pub extension_good : Bool → ℕ → Bool
extension_good update n = cond update (leb n 999) (eqb n 0)

-- "DSNM: two of A-Z 0-9, INTU (1 to 6) as digit, five of A-Z 0-9, ".", three digits"; it ends at e
unfoldable pub dsnm_good : Bool → List ℕ → ℕ → Bool
dsnm_good update s e =
    eqb e 19 && (codes_at 2 s DSID_DSNM && (eqb (byte_at s 9) (48 + byte_at s DSID_INTU) && (codes_at 5 s 10 && (eqb (byte_at s 15) 46 && extension_good update (number_at s 16 3)))))

-- "EDTN one to four digits, 1 to 9,999"
unfoldable pub edtn_good : List ℕ → ℕ → ℕ → Bool
edtn_good s i e = digits_within 4 1 9999 s i e

-- "UPDN one to three digits, 0 to 999 (from 1 in updates)"
unfoldable pub updn_digits : Bool → List ℕ → ℕ → ℕ → Bool
updn_digits update s i e = digits_within 3 (cond update 1 0) 999 s i e

-- "three digits: .. UPDN in an update", as a number; of the two UPDN is the later
unfoldable pub updn_good : Bool → List ℕ → ℕ → ℕ → Bool
updn_good update s i e = updn_digits update s i e && (not update || eqb (number_at s 16 3) (number_at s i (e - i)))

-- ---- the texts of fixed content
-- "ISDT, and UADT in cells, a Gregorian YYYYMMDD"; in an update UADT is any text
unfoldable pub uadt_good : Bool → List ℕ → ℕ → Bool
uadt_good update s i = cond update (text_in false s i (i + 8)) (date_good s i)

-- "STED 03.1"
unfoldable pub sted_good : List ℕ → ℕ → Bool
sted_good s i = eqb (byte_at s i) 48 && (eqb (byte_at s (i + 1)) 51 && (eqb (byte_at s (i + 2)) 46 && eqb (byte_at s (i + 3)) 49))

-- "PRED 2.0"
unfoldable pub pred_good : List ℕ → ℕ → ℕ → Bool
pred_good s i e = eqb e (i + 3) && (eqb (byte_at s i) 50 && (eqb (byte_at s (i + 1)) 46 && eqb (byte_at s (i + 2)) 48))

-- ---- the field, in four runs of subfields
-- RCNM, RCID, EXPP, INTU: "RCNM 10, 20 ..", here 10, "INTU (1 to 6)"
unfoldable pub head_fault : Bool → List ℕ → ℕ
head_fault update s =
    first (fault_at 0 (eqb (byte_at s 0) 10))
    (first (fault_at RCID (rcid_good s RCID))
    (first (fault_at DSID_EXPP (eqb (byte_at s DSID_EXPP) (profile_of update)))
    (fault_at DSID_INTU (within 1 6 (byte_at s DSID_INTU)))))

-- DSNM, EDTN, UPDN
unfoldable pub names_fault : Bool → List ℕ → Ends → ℕ
names_fault update s e =
    first (fault_at DSID_DSNM (dsnm_good update s e.dsnm))
    (first (fault_at (e.dsnm + 1) (edtn_good s (e.dsnm + 1) e.edtn))
    (fault_at (e.edtn + 1) (updn_good update s (e.edtn + 1) e.updn)))

-- UADT, ISDT, STED, PRSP, of which the first begins at i: "PRSP 1"
unfoldable pub issue_fault : Bool → List ℕ → ℕ → ℕ
issue_fault update s i =
    first (fault_at i (uadt_good update s i))
    (first (fault_at (i + 8) (date_good s (i + 8)))
    (first (fault_at (i + 16) (sted_good s (i + 16)))
    (fault_at (i + 20) (eqb (byte_at s (i + 20)) 1))))

-- PSDN, PRED, PROF, AGEN, COMT: "PSDN empty", AGEN is free, COMT is text
unfoldable pub product_fault : Bool → List ℕ → Ends → ℕ
product_fault update s e =
    first (fault_at (e.updn + 22) (eqb e.psdn (e.updn + 22)))
    (first (fault_at (e.psdn + 1) (pred_good s (e.psdn + 1) e.pred))
    (first (fault_at (e.pred + 1) (eqb (byte_at s (e.pred + 1)) (profile_of update)))
    (fault_at (e.pred + 4) (text_in false s (e.pred + 4) e.comt))))

-- the fault of a DSID whose texts end as e says
unfoldable pub dsid_over : Bool → List ℕ → Ends → ℕ
dsid_over update s e =
    first (head_fault update s) (first (names_fault update s e) (first (issue_fault update s (e.updn + 1)) (product_fault update s e)))

-- the fault of a DSID
unfoldable pub dsid_fault : Bool → List ℕ → ℕ
dsid_fault update s = dsid_over update s (dsid_ends s)
