-- Item classes by their ranges: "OBJL 1-299 geo, 300-399 meta, 400-401 collection". Assumes nothing.
use Rattle.std.specs.Prelude.{ℕ, Bool, true, false, cond}
use Rattle.values.specs.Rule.{within}

unfoldable pub is_geo : ℕ → Bool
is_geo objl = within 1 299 objl

unfoldable pub is_meta : ℕ → Bool
is_meta objl = within 300 399 objl

unfoldable pub is_collection : ℕ → Bool
is_collection objl = within 400 401 objl

-- the class that a label belongs to, or none of the three
pub data Class : Type 0 where
  Geo : Class
  Meta : Class
  Collection : Class
  NoClass : Class

unfoldable pub class_of : ℕ → Class
class_of objl = cond (is_geo objl) Geo (cond (is_meta objl) Meta (cond (is_collection objl) Collection NoClass))

unfoldable pub is_class : Class → Bool
is_class Geo = true
is_class Meta = true
is_class Collection = true
is_class NoClass = false

-- an OBJL is in one of the three ranges
unfoldable pub objl_good : ℕ → Bool
objl_good objl = is_class (class_of objl)
