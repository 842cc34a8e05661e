-- Laws of the object classes. Assumes nothing.
use Prim.Native.Nat.{ℕ}
use mathlib.Core.Bool.{Bool, true, false, cond}
use mathlib.Core.Path.{◌≡◌, refl}
use Rattle.values.specs.Class.{is_geo, is_meta, is_collection, Collection, NoClass, is_class, class_of, objl_good}

-- ---- objl_good, by the three ranges in turn
module _ (objl : ℕ) (g : Bool) (geo : g ≡ is_geo objl) where
  pub objl_geo : g ≡ true → true ≡ objl_good objl
  unfolding objl_good class_of is_class
  objl_geo h = rw (← geo, h)

  pub objl_meta : (m : Bool) → m ≡ is_meta objl → g ≡ false → m ≡ true → true ≡ objl_good objl
  unfolding objl_good class_of is_class
  objl_meta m meta h k = rw (← geo, ← meta, h, k)

  pub objl_last : (m r : Bool) → m ≡ is_meta objl → r ≡ is_collection objl → g ≡ false → m ≡ false → r ≡ objl_good objl
  unfolding objl_good class_of is_class
  objl_last m r meta collection h k = rw (← geo, ← meta, ← collection, h, k) (kept r)
    where
      kept : (r : Bool) → r ≡ is_class (cond r Collection NoClass)
      kept true = refl
      kept false = refl
