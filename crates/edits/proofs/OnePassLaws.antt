-- One pass is one change after the other, where no label stands twice in either list. Assumes nothing.
use Prim.Native.Nat.{ℕ}
use mathlib.Core.Bool.{Bool, true, false, not, ◌||◌}
use mathlib.Core.List.{List, [], ◌∷◌, ◌++◌, append_assoc, append-nil}
use mathlib.Core.Logic.{⊎_elim}
use mathlib.Core.Path.{◌≡◌, refl, sym, ap, ◌∙◌}
use native.Mathlib.Omega.{arith}
use lib.Dec.{eqb}
use borrow.Author.Tests.{eq-eqb, ne_eqb, eqb-true, eqb-false, not-true}
use Rattle.octets.proofs.Cases.{true_or_false}
use Rattle.octets.proofs.Tests.{both}
use Rattle.edits.specs.AttributeEdit.{named, change, finds, changes, changes_find}
use Rattle.edits.specs.OnePass.{apart, instead, worked, fresh, one_pass, findable}
use Rattle.edits.proofs.AttributeLaws.{named_change, apart_change}

neither : (a b : Bool) → (a || b) ≡ false → (a ≡ false) × (b ≡ false)
neither false b h = (refl, h)
neither true b h = absurd (let z : ◌≡◌ {A = ℕ} 0 1 = cc in omega arith)

turned : (x y : ℕ) → eqb x y ≡ false → eqb y x ≡ false
turned x y f = ne_eqb y x (λ (h : y ≡ x). eqb-false x y f (sym h))

module _ {E : Type 0} (label : E → ℕ) (removes : E → Bool) where
  -- ---- an attribute of a label that the rest doesn't name changes nothing for the rest
  finds_change : (a : E) (held : List E) (b : E) → eqb (label b) (label a) ≡ false → finds label removes b (change label removes a held) ≡ finds label removes b held
  unfolding finds
  finds_change a held b f = rw (named_change label removes a held (label b) (λ (h : label a ≡ label b). eqb-false (label b) (label a) f (sym h)))

  findable_change : (a : E) (held more : List E) → named label (label a) more ≡ false → findable label removes (change label removes a held) more ≡ findable label removes held more
  unfolding findable named
  findable_change a held [] out = refl
  findable_change a held (b ∷ more) out =
      let p = neither (eqb (label b) (label a)) (named label (label a) more) out in
      rw (finds_change a held b p.0, findable_change a held more p.1)

  fresh_change : (a : E) (held more : List E) → named label (label a) more ≡ false → fresh label (change label removes a held) more ≡ fresh label held more
  unfolding fresh named
  fresh_change a held [] out = refl
  fresh_change a held (b ∷ more) out =
      let p = neither (eqb (label b) (label a)) (named label (label a) more) out in
      rw (named_change label removes a held (label b) (λ (h : label a ≡ label b). eqb-false (label b) (label a) p.0 (sym h)), fresh_change a held more p.1)

  -- ---- "7F removes it and must find it"
  pub one_pass_finds : (held brought : List E) → apart label brought ≡ true → changes_find label removes held brought ≡ findable label removes held brought
  unfolding changes_find findable apart
  one_pass_finds held [] apt = refl
  one_pass_finds held (a ∷ more) apt =
      let p = both (not (named label (label a) more)) (apart label more) apt in
      rw (one_pass_finds (change label removes a held) more p.1, findable_change a held more (not-true (named label (label a) more) p.0))

  -- ---- the held attributes in their places
  worked_none : (held : List E) → worked label removes held [] ≡ held
  unfolding worked instead
  worked_none [] = refl
  worked_none (e ∷ es) = ap (λ (l : List E). e ∷ l) (worked_none es)

  pub instead_none : (e : E) (brought : List E) → named label (label e) brought ≡ false → instead label removes e brought ≡ e ∷ []
  unfolding instead named
  instead_none e [] out = refl
  instead_none e (a ∷ more) out = let p = neither (eqb (label a) (label e)) (named label (label e) more) out in rw p.0 (instead_none e more p.1)

  worked_unnamed : (a : E) (held more : List E) → named label (label a) held ≡ false → worked label removes held (a ∷ more) ≡ worked label removes held more
  unfolding worked instead named
  worked_unnamed a [] more out = refl
  worked_unnamed a (e ∷ es) more out =
      let p = neither (eqb (label e) (label a)) (named label (label a) es) out in
      rw (turned (label e) (label a) p.0, worked_unnamed a es more p.1)

  worked_last : (a : E) (held more : List E) → named label (label a) more ≡ false
      → worked label removes (held ++ (a ∷ [])) more ≡ worked label removes held more ++ (a ∷ [])
  unfolding worked
  worked_last a [] more out = rw (instead_none a more out)
  worked_last a (e ∷ es) more out =
      rw (worked_last a es more out) (sym (append_assoc (instead label removes e more) (worked label removes es more) (a ∷ [])))

  worked_found : (a : E) (held more : List E) → apart label held ≡ true → named label (label a) held ≡ true → named label (label a) more ≡ false
      → worked label removes (change label removes a held) more ≡ worked label removes held (a ∷ more)
  unfolding worked instead change named apart
  worked_found a [] more apt is out = absurd (let z : ◌≡◌ {A = ℕ} 0 1 = cc in omega arith)
  worked_found a (e ∷ es) more apt is out =
      let p = both (not (named label (label e) es)) (apart label es) apt in
      ⊎_elim
      (λ (t : eqb (label e) (label a) ≡ true).
      let same : label e ≡ label a = eqb-true (label e) (label a) t in
      let rest = worked_unnamed a es more (rw (← same) (not-true (named label (label e) es) p.0)) in
      ⊎_elim (λ (r : removes a ≡ true). rw (t, r, eq-eqb (label a) (label e) (sym same), rest))
      (λ (r : removes a ≡ false). rw (t, r, eq-eqb (label a) (label e) (sym same), rest, instead_none a more out))
      (true_or_false (removes a)))
      (λ (f : eqb (label e) (label a) ≡ false). rw (f, turned (label e) (label a) f, worked_found a es more p.1 (rw f at is) out))
      (true_or_false (eqb (label e) (label a)))

  appended : (a : E) (held : List E) → named label (label a) held ≡ false → removes a ≡ false → change label removes a held ≡ held ++ (a ∷ [])
  unfolding change named
  appended a [] out r = rw r
  appended a (e ∷ es) out r = let p = neither (eqb (label e) (label a)) (named label (label a) es) out in rw (p.0, appended a es p.1 r)

  kept_of : (a : E) (held : List E) → finds label removes a held ≡ true → named label (label a) held ≡ false → removes a ≡ false
  unfolding finds
  kept_of a held f out =
      ⊎_elim (λ (r : removes a ≡ true). absurd (let g : named label (label a) held ≡ true = rw r at f in let z : ◌≡◌ {A = ℕ} 0 1 = cc in omega arith))
      (λ (r : removes a ≡ false). r) (true_or_false (removes a))

  -- ---- "An attribute in a modify replaces in its place, or is appended"
  pub one_pass_lem : (held brought : List E) → apart label held ≡ true → apart label brought ≡ true → findable label removes held brought ≡ true
      → changes label removes held brought ≡ one_pass label removes held brought
  unfolding changes one_pass fresh apart findable
  one_pass_lem held [] hap apt f = rw (worked_none held) (sym (append-nil held))
  one_pass_lem held (a ∷ more) hap apt f =
      let p = both (not (named label (label a) more)) (apart label more) apt in
      let q = both (finds label removes a held) (findable label removes held more) f in
      let out : named label (label a) more ≡ false = not-true (named label (label a) more) p.0 in
      let rest = one_pass_lem (change label removes a held) more (apart_change label removes a held hap) p.1 (findable_change a held more out ∙ q.1) in
      ⊎_elim
      (λ (is : named label (label a) held ≡ true). rest ∙ rw (is, worked_found a held more hap is out, fresh_change a held more out))
      (λ (not_held : named label (label a) held ≡ false).
      let new = appended a held not_held (kept_of a held q.0 not_held) in
      rest ∙ rw (fresh_change a held more out, not_held, new, worked_last a held more out, worked_unnamed a held more not_held)
      (append_assoc (worked label removes held more) (a ∷ []) (fresh label held more)))
      (true_or_false (named label (label a) held))
