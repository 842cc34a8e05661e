-- The look-up of a name among the words of a file's records, and of a FOID. Assumes nothing.
use Rattle.std.specs.Prelude.{ℕ, List, Option, Some, None}
use Rattle.answers.specs.Codes.{POINTER}
use Rattle.octets.specs.Number.{byte_at, num_at}
use Rattle.items.specs.Identity.{name_from}

-- "NAME is RCNM, RCID": the name that an entry of VRPT or FSPT starts with. Shape has seen before that its class is 110, 120 or 130: of another class
-- the number would be a feature's
unfoldable pub name_in : List ℕ → ℕ
name_in e = name_from (byte_at e 0) (num_at e 1 4)

-- "a NAME is refused exactly if no record of the cell has it", of a class that Shape has passed: 0 where it is found, else 18, Pointer
unfoldable pub found_code : Option ℕ → ℕ
found_code (Some place) = 0
found_code None = POINTER
