-- Worked examples, computed: the definitions tried on a few fields before anything is proved of them. Assumes nothing.
use Prim.Native.Nat.{ℕ}
use mathlib.Core.Bool.{true, false}
use mathlib.Core.List.{List, [], ◌∷◌}
use mathlib.Core.Path.{◌≡◌, refl}
use Rattle.octets.specs.Number.{num_at}
use Rattle.octets.specs.Digits.{is_digit, digits_from, number_at}
use Rattle.values.specs.Fault.{fault_at, first}
use Rattle.headvalues.specs.Text.{is_text, text_good, until_end, text_end}
use Rattle.dates.specs.Date.{is_leap, days_in, is_date, date_good}
use Rattle.values.specs.Rule.{within, rcid_good, profile_of, digits_within}
use Rattle.dataset.specs.Dsid.{dsid_ends, dsid_laid, is_code, codes_at, extension_good, dsnm_good, edtn_good, updn_digits, updn_good, uadt_good, sted_good, pred_good, head_fault}
use Rattle.dataset.specs.Dsid.{names_fault, issue_fault, product_fault, dsid_over, dsid_fault}

-- ---- dates: 19000229 is none, 20000229 and 00010101 are, 00000101 is none

no_leap_1900 : date_good (49 ∷ 57 ∷ 48 ∷ 48 ∷ 48 ∷ 50 ∷ 50 ∷ 57 ∷ []) 0 ≡ false
unfolding date_good is_date days_in is_leap number_at digits_from is_digit
no_leap_1900 = refl

leap_2000 : date_good (50 ∷ 48 ∷ 48 ∷ 48 ∷ 48 ∷ 50 ∷ 50 ∷ 57 ∷ []) 0 ≡ true
unfolding date_good is_date days_in is_leap number_at digits_from is_digit
leap_2000 = refl

first_day : date_good (48 ∷ 48 ∷ 48 ∷ 49 ∷ 48 ∷ 49 ∷ 48 ∷ 49 ∷ []) 0 ≡ true
unfolding date_good is_date days_in is_leap number_at digits_from is_digit
first_day = refl

no_year_0 : date_good (48 ∷ 48 ∷ 48 ∷ 48 ∷ 48 ∷ 49 ∷ 48 ∷ 49 ∷ []) 0 ≡ false
unfolding date_good is_date days_in is_leap number_at digits_from is_digit
no_year_0 = refl

-- ---- "EDTN one to four digits, 1 to 9,999": 0001 is one, 0000 and 00001 are none
edtn_0001 : edtn_good (48 ∷ 48 ∷ 48 ∷ 49 ∷ []) 0 4 ≡ true
unfolding edtn_good digits_within within number_at digits_from is_digit
edtn_0001 = refl

edtn_0000 : edtn_good (48 ∷ 48 ∷ 48 ∷ 48 ∷ []) 0 4 ≡ false
unfolding edtn_good digits_within within number_at digits_from is_digit
edtn_0000 = refl

edtn_00001 : edtn_good (48 ∷ 48 ∷ 48 ∷ 48 ∷ 49 ∷ []) 0 5 ≡ false
unfolding edtn_good digits_within within number_at digits_from is_digit
edtn_00001 = refl

-- ---- a whole DSID of a cell, with a 1F in its AGEN
cell : List ℕ
cell =
    10 ∷ 1 ∷ 0 ∷ 0 ∷ 0 ∷ 1 ∷ 5 ∷ 71 ∷ 66 ∷ 53 ∷ 88 ∷ 48 ∷ 49 ∷ 83 ∷ 87 ∷ 46 ∷ 48 ∷ 48 ∷ 48 ∷ 31 ∷ 50 ∷ 31 ∷ 48 ∷ 31 ∷ 50 ∷ 48 ∷ 50 ∷ 48 ∷ 48 ∷ 50 ∷
    50 ∷ 57 ∷ 50 ∷ 48 ∷ 48 ∷ 48 ∷ 48 ∷ 50 ∷ 50 ∷ 57 ∷ 48 ∷ 51 ∷ 46 ∷ 49 ∷ 1 ∷ 31 ∷ 50 ∷ 46 ∷ 48 ∷ 31 ∷ 1 ∷ 31 ∷ 2 ∷ 111 ∷ 107 ∷ 31 ∷ []

cell_laid : dsid_laid cell ≡ true
unfolding cell dsid_laid text_end until_end
cell_laid = refl

cell_good : dsid_fault false cell ≡ 0
unfolding cell first fault_at text_end until_end text_good is_text date_good is_date days_in is_leap within rcid_good profile_of digits_within dsid_ends dsid_laid is_code codes_at extension_good
    dsnm_good edtn_good updn_digits updn_good uadt_good sted_good pred_good head_fault names_fault issue_fault product_fault dsid_over dsid_fault num_at number_at digits_from is_digit
cell_good = refl

-- taken as an update's it is wrong at its EXPP, the byte 5
cell_no_update : dsid_fault true cell ≡ 6
unfolding cell first fault_at text_end until_end text_good is_text date_good is_date days_in is_leap within rcid_good profile_of digits_within dsid_ends dsid_laid is_code codes_at extension_good
    dsnm_good edtn_good updn_digits updn_good uadt_good sted_good pred_good head_fault names_fault issue_fault product_fault dsid_over dsid_fault num_at number_at digits_from is_digit
cell_no_update = refl

-- ---- an update 003 whose UPDN is "3", and the same with UPDN "4": wrong at UPDN, the byte 22
update_good : dsid_fault true
    (10 ∷ 1 ∷ 0 ∷ 0 ∷ 0 ∷ 2 ∷ 5 ∷ 71 ∷ 66 ∷ 53 ∷ 88 ∷ 48 ∷ 49 ∷ 83 ∷ 87 ∷ 46 ∷ 48 ∷ 48 ∷ 51 ∷ 31 ∷ 50 ∷ 31 ∷ 51 ∷ 31 ∷ 50 ∷ 48 ∷ 50 ∷ 48 ∷ 48 ∷ 50 ∷
    50 ∷ 57 ∷ 50 ∷ 48 ∷ 48 ∷ 48 ∷ 48 ∷ 50 ∷ 50 ∷ 57 ∷ 48 ∷ 51 ∷ 46 ∷ 49 ∷ 1 ∷ 31 ∷ 50 ∷ 46 ∷ 48 ∷ 31 ∷ 2 ∷ 31 ∷ 2 ∷ 111 ∷ 107 ∷ 31 ∷ []) ≡ 0
unfolding first fault_at text_end until_end text_good is_text date_good is_date days_in is_leap within rcid_good profile_of digits_within dsid_ends dsid_laid is_code codes_at extension_good
    dsnm_good edtn_good updn_digits updn_good uadt_good sted_good pred_good head_fault names_fault issue_fault product_fault dsid_over dsid_fault num_at number_at digits_from is_digit
update_good = refl

update_other : dsid_fault true
    (10 ∷ 1 ∷ 0 ∷ 0 ∷ 0 ∷ 2 ∷ 5 ∷ 71 ∷ 66 ∷ 53 ∷ 88 ∷ 48 ∷ 49 ∷ 83 ∷ 87 ∷ 46 ∷ 48 ∷ 48 ∷ 51 ∷ 31 ∷ 50 ∷ 31 ∷ 52 ∷ 31 ∷ 97 ∷ 110 ∷ 121 ∷ 32 ∷ 116 ∷
    101 ∷ 120 ∷ 116 ∷ 50 ∷ 48 ∷ 48 ∷ 48 ∷ 48 ∷ 50 ∷ 50 ∷ 57 ∷ 48 ∷ 51 ∷ 46 ∷ 49 ∷ 1 ∷ 31 ∷ 50 ∷ 46 ∷ 48 ∷ 31 ∷ 2 ∷ 31 ∷ 2 ∷ 111 ∷ 107 ∷ 31 ∷ []) ≡ 23
unfolding first fault_at text_end until_end text_good is_text date_good is_date days_in is_leap within rcid_good profile_of digits_within dsid_ends dsid_laid is_code codes_at extension_good
    dsnm_good edtn_good updn_digits updn_good uadt_good sted_good pred_good head_fault names_fault issue_fault product_fault dsid_over dsid_fault num_at number_at digits_from is_digit
update_other = refl
