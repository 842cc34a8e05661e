-- An item: a vector or a feature with its lists, as a value. Topology, the held form and updates all speak of it. Assumes nothing.
use Rattle.std.specs.Prelude.{ℕ, ◌+◌, Bool, cond, List, [], eqb}
use Rattle.octets.specs.Number.{byte_at}
use Rattle.table.specs.Table.{row_of}
use Rattle.items.specs.Lists.{entries_at}
use Rattle.items.specs.Identity.{id_at, rcnm_at, rcid_at, version_at, prim_at, objl_at, foid_at, name_from}

-- class, RCID, RVER; of a feature PRIM, GRUP, OBJL and FOID, of a vector 0; the entries of each kind of list, by its number in the table
pub record Item : Type 0 where
  pub rcnm : ℕ
  pub rcid : ℕ
  pub version : ℕ
  pub prim : ℕ
  pub grup : ℕ
  pub objl : ℕ
  pub foid : ℕ
  pub lists : ℕ → List (List ℕ)

unfoldable pub is_feature : ℕ → Bool
is_feature rcnm = eqb rcnm 100

unfoldable pub grup_at : List ℕ → ℕ → ℕ
grup_at s at = byte_at s (id_at s at + 6)

-- what is there of a feature alone
unfoldable pub of_feature : ℕ → ℕ → ℕ
of_feature rcnm v = cond (is_feature rcnm) v 0

-- the entries of a list; what is no list has none
unfoldable pub list_of : List ℕ → ℕ → ℕ → List (List ℕ)
list_of s at k = cond (row_of k).list (entries_at s at k) []

-- what the record at `at` says
abbrev pub item_at : List ℕ → ℕ → Item
item_at s at = record {
  rcnm = rcnm_at s at;
  rcid = rcid_at s at;
  version = version_at s at;
  prim = of_feature (rcnm_at s at) (prim_at s at);
  grup = of_feature (rcnm_at s at) (grup_at s at);
  objl = of_feature (rcnm_at s at) (objl_at s at);
  foid = of_feature (rcnm_at s at) (foid_at s at);
  lists = list_of s at;
}

-- its name as a number
abbrev pub item_name : Item → ℕ
item_name i = name_from i.rcnm i.rcid
