-- What a caller takes from a list that was put: no answer says that the edit may not be done, any that it is written. Assumes nothing.
use Prim.Native.Nat.{ℕ}
use mathlib.Core.Bool.{Bool, true, false}
use mathlib.Core.List.{List}
use mathlib.Core.Path.{◌≡◌, refl, sym, ◌∙◌}
use native.Mathlib.Omega.{arith}
use lib.ListN.{length}
use Rattle.std.specs.Prelude.{Option, Some, None, IsSome}
use Rattle.octets.specs.Area.{Wrote}
use Rattle.octets.proofs.AreaLaws.{wrote_length}
use Rattle.splice.specs.Put.{ListPut}

pub never : (b : Bool) → b ≡ true → b ≡ false → ⊥
never b t f = let z : ◌≡◌ {A = Bool} true false = sym t ∙ f in let y : ◌≡◌ {A = ℕ} 0 1 = cc in omega arith

-- ---- for callers
module _ {may : Bool} {bytes area next : List ℕ} {at : ℕ} {r : Option ℕ} (p : ListPut may bytes area at next r) where
  pub put_refused : r ≡ None → may ≡ false
  put_refused e = p.no e

  pub put_allowed : {e : ℕ} → r ≡ Some e → may ≡ true
  put_allowed is = (p.yes _ is).0

  pub put_done : {e : ℕ} → r ≡ Some e → Wrote area at bytes next e
  put_done is = (p.yes _ is).1

pub put_given : {may : Bool} {bytes area next : List ℕ} {at : ℕ} {r : Option ℕ} → ListPut may bytes area at next r → may ≡ true → IsSome r
put_given {r = None} p t = absurd (never _ t (p.no refl))
put_given {r = Some e} p t = refl

-- ---- for writers
pub put_no : {may : Bool} (bytes area : List ℕ) (at : ℕ) {next : List ℕ} → may ≡ false → length next ≡ length area → ListPut may bytes area at next None
put_no bytes area at f size = record { no = λ e. f; yes = λ e h. cc; size = size }

pub put_yes : {may : Bool} {bytes area next : List ℕ} {at r : ℕ} → may ≡ true → Wrote area at bytes next r → ListPut may bytes area at next (Some r)
put_yes {r = r} t w = record { no = λ h. cc; yes = λ e h. let same : r ≡ e = cc in (t, rw (← same) w); size = wrote_length w }
