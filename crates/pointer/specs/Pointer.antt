-- Document 01's Pointer, of one item: whether what it points to is there. Assumes nothing.
use Rattle.std.specs.Prelude.{ℕ, Bool, cond, List, [], ◌∷◌, eqb, Option}
use Rattle.octets.specs.Number.{num_at}
use Rattle.answers.specs.First.{first_code}
use Rattle.answers.specs.Codes.{POINTER}
use Rattle.table.specs.Table.{VRPT, FFPT, FSPT}
use Rattle.items.specs.Item.{Item}
use Rattle.lookups.specs.Lookup.{name_in, found_code}

-- "a NAME is refused exactly if no record of the cell has it": `place` looks a name up among all items. Shape has seen that its class is
-- 110, 120 or 130, so that the name as a number is the name
unfoldable pub names_code : (ℕ → Option ℕ) → List (List ℕ) → ℕ
names_code place [] = 0
names_code place (e ∷ es) = first_code (found_code (place (name_in e))) (names_code place es)

-- "an LNAM exactly if no feature has that FOID (several may)": LNAM is AGEN, FIDN, FIDS, as FOID is; `object` asks all features
unfoldable pub lnams_code : (ℕ → Bool) → List (List ℕ) → ℕ
lnams_code object [] = 0
lnams_code object (e ∷ es) = cond (object (num_at e 0 8)) (lnams_code object es) POINTER

-- of a vector its VRPT, of a feature its FFPT and FSPT
unfoldable pub pointer_code : (ℕ → Option ℕ) → (ℕ → Bool) → Item → ℕ
pointer_code place object i =
    cond (eqb i.rcnm 100)
    (first_code (lnams_code object (i.lists FFPT)) (names_code place (i.lists FSPT)))
    (names_code place (i.lists VRPT))
