-- Rules that several fields share. Assumes nothing.
use Rattle.std.specs.Prelude.{ℕ, ◌-◌, Bool, cond, ◌&&◌, List, leb}
use Rattle.octets.specs.Number.{num_at}
use Rattle.octets.specs.Digits.{number_at}

-- a number from low to high
unfoldable pub within : ℕ → ℕ → ℕ → Bool
within low high v = leb low v && leb v high

-- "RCID 1 to 4,294,967,294": the four bytes of s from i on
unfoldable pub rcid_good : List ℕ → ℕ → Bool
rcid_good s i = within 1 4294967294 (num_at s i 4)

-- "RVER from 1": the two bytes of s from i on
unfoldable pub rver_good : List ℕ → ℕ → Bool
rver_good s i = leb 1 (num_at s i 2)

-- "RUIN 1 in cells; RUIN 1 insert, 2 delete, 3 modify in updates"
unfoldable pub ruin_good : Bool → ℕ → Bool
ruin_good update b = within 1 (cond update 3 1) b

-- "EXPP and PROF 1 in cells, 2 in updates"
unfoldable pub profile_of : Bool → ℕ
profile_of update = cond update 2 1

-- one to `width` digits from i up to e, which make a number from least to most
unfoldable pub digits_within : ℕ → ℕ → ℕ → List ℕ → ℕ → ℕ → Bool
digits_within width least most s i e = leb 1 (e - i) && (leb (e - i) width && within least most (number_at s i (e - i)))
