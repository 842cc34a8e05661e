-- The leader of a record: its 24 bytes, and the numbers in them. Assumes nothing.
use Rattle.std.specs.Prelude.{ℕ, ◌+◌, ◌-◌, Bool, true, false, ◌&&◌, List, length, leb, eqb}
use Rattle.octets.specs.Number.{byte_at}
use Rattle.octets.specs.Digits.{number_at}

-- "0 to 4 record length in digits"
abbrev pub size_at : List ℕ → ℕ → ℕ
size_at s at = number_at s at 5

-- "12 to 16 base address in digits"
abbrev pub base_at : List ℕ → ℕ → ℕ
base_at s at = number_at s (at + 12) 5

-- "20 to 23: size of field length 1-9, size of position 1-9, "0", "4""
abbrev pub length_digits : List ℕ → ℕ → ℕ
length_digits s at = byte_at s (at + 20) - 48

abbrev pub position_digits : List ℕ → ℕ → ℕ
position_digits s at = byte_at s (at + 21) - 48

-- "6 is L in record 0, D in all others"; "Record 0 has "09" in 10-11"
unfoldable pub kind_good : Bool → List ℕ → ℕ → Bool
kind_good true s at = eqb (byte_at s (at + 6)) 76 && (eqb (byte_at s (at + 10)) 48 && eqb (byte_at s (at + 11)) 57)
kind_good false s at = eqb (byte_at s (at + 6)) 68

-- one digit, 1 to 9
unfoldable pub size_good : List ℕ → ℕ → Bool
size_good s i = leb 49 (byte_at s i) && leb (byte_at s i) 57

-- "Leader, 24 bytes"; "Other leader bytes aren't judged". `first`: whether this is record 0
unfoldable pub leader_good : Bool → List ℕ → ℕ → Bool
leader_good first s at =
    leb (at + 24) (length s)
    && (kind_good first s at && (size_good s (at + 20) && (size_good s (at + 21) && (eqb (byte_at s (at + 22)) 48 && eqb (byte_at s (at + 23)) 52))))
