-- What a record is: its name, its version, and of a feature its primitive, class and FOID. Assumes nothing.
use Rattle.std.specs.Prelude.{ℕ, ◌+◌, ◌*◌, cond, List, eqb}
use Rattle.octets.specs.Number.{byte_at, num_at}
use Rattle.iso8211.specs.Field.{field_at}
use Rattle.table.specs.Offsets.{RCID, VRID_RVER, VRID_RUIN, FRID_PRIM, FRID_OBJL, FRID_RVER, FRID_RUIN}
use Rattle.items.specs.Word.{name_weight, class_weight}

-- where the identifier field, VRID or FRID, starts: it stands behind 0001
abbrev pub id_at : List ℕ → ℕ → ℕ
id_at s at = (field_at s at 1).start

unfoldable pub rcnm_at : List ℕ → ℕ → ℕ
rcnm_at s at = byte_at s (id_at s at)

unfoldable pub rcid_at : List ℕ → ℕ → ℕ
rcid_at s at = num_at s (id_at s at + RCID) 4

-- of a feature: PRIM and OBJL of FRID, and the eight bytes of FOID as a number
unfoldable pub prim_at : List ℕ → ℕ → ℕ
prim_at s at = byte_at s (id_at s at + FRID_PRIM)

unfoldable pub objl_at : List ℕ → ℕ → ℕ
objl_at s at = num_at s (id_at s at + FRID_OBJL) 2

unfoldable pub foid_at : List ℕ → ℕ → ℕ
foid_at s at = num_at s (field_at s at 2).start 8

-- "RCNM .. 110 isolated node, 120 connected node, 130 edge, 100 feature", in the order of the held form: "vectors by class 110, 120, 130,
-- then features". Any other number ranks as a feature: Value has seen that there is none
unfoldable pub rank_of : ℕ → ℕ
rank_of rcnm = cond (eqb rcnm 110) 0 (cond (eqb rcnm 120) 1 (cond (eqb rcnm 130) 2 3))

-- RVER: two bytes, which stand at another offset in a feature
unfoldable pub version_at : List ℕ → ℕ → ℕ
version_at s at = cond (eqb (rcnm_at s at) 100) (num_at s (id_at s at + FRID_RVER) 2) (num_at s (id_at s at + VRID_RVER) 2)

-- "RUIN 1 insert, 2 delete, 3 modify", likewise
unfoldable pub ruin_at : List ℕ → ℕ → ℕ
ruin_at s at = cond (eqb (rcnm_at s at) 100) (byte_at s (id_at s at + FRID_RUIN)) (byte_at s (id_at s at + VRID_RUIN))

-- a name as a number, by which names are compared and put into held order
unfoldable pub name_from : ℕ → ℕ → ℕ
name_from rcnm rcid = rank_of rcnm * class_weight + rcid

unfoldable pub name_at : List ℕ → ℕ → ℕ
name_at s at = name_from (rcnm_at s at) (rcid_at s at)

-- a name and the offset of its record in one word
unfoldable pub word_for : List ℕ → ℕ → ℕ
word_for s at = name_at s at * name_weight + at
