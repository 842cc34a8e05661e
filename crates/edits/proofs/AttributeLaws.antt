-- Laws of the edit of a list of attributes, each by induction along one change and then along all: no label comes twice, those of other
-- labels are left as they were, and what holds of each attribute goes on to hold. Assumes nothing.
use Prim.Native.Nat.{ℕ}
use mathlib.Core.Bool.{Bool, true, false, not, cond, or-true}
use mathlib.Core.List.{List, [], ◌∷◌, ◌++◌}
use mathlib.Core.Logic.{⊎_elim}
use mathlib.Core.Path.{◌≡◌, refl, sym, ap, ◌∙◌}
use native.Mathlib.Omega.{arith}
use lib.Dec.{eqb}
use borrow.Author.Tests.{eq-eqb, ne_eqb, eqb-true, eqb-false, not-true}
use Rattle.octets.proofs.Cases.{true_or_false}
use Rattle.octets.proofs.Tests.{both}
use Rattle.entries.specs.declared.Shape.{Shape}
use Rattle.entries.specs.Entries.{Entry, Each}
use Rattle.entries.specs.Entries.Each.{each_none, each_more}
use Rattle.entries.specs.Rules.{all_of}
use Rattle.edits.specs.AttributeEdit.{named, change, changes}
use Rattle.edits.specs.OnePass.{apart, those}

module _ {E : Type 0} (label : E → ℕ) (removes : E → Bool) where
  -- ---- labels
  pub named_change : (a : E) (held : List E) (k : ℕ) → (label a ≡ k → ⊥) → named label k (change label removes a held) ≡ named label k held
  unfolding named change
  named_change a [] k ne =
      ⊎_elim (λ (r : removes a ≡ true). rw r) (λ (r : removes a ≡ false). rw (r, ne_eqb (label a) k ne)) (true_or_false (removes a))
  named_change a (e ∷ es) k ne =
      ⊎_elim
      (λ (t : eqb (label e) (label a) ≡ true).
      let same : label e ≡ label a = eqb-true (label e) (label a) t in
      let other : eqb (label e) k ≡ false = ne_eqb (label e) k (λ (h : label e ≡ k). ne (sym same ∙ h)) in
      ⊎_elim (λ (r : removes a ≡ true). rw (t, r, other)) (λ (r : removes a ≡ false). rw (t, r, other, ne_eqb (label a) k ne)) (true_or_false (removes a)))
      (λ (f : eqb (label e) (label a) ≡ false). rw (f, named_change a es k ne))
      (true_or_false (eqb (label e) (label a)))

  -- "No ATTL twice"
  pub apart_change : (a : E) (held : List E) → apart label held ≡ true → apart label (change label removes a held) ≡ true
  unfolding apart named change
  apart_change a [] h = ⊎_elim (λ (r : removes a ≡ true). rw r) (λ (r : removes a ≡ false). rw r) (true_or_false (removes a))
  apart_change a (e ∷ es) h =
      let p = both (not (named label (label e) es)) (apart label es) h in
      ⊎_elim
      (λ (t : eqb (label e) (label a) ≡ true).
      let same : label e ≡ label a = eqb-true (label e) (label a) t in
      ⊎_elim (λ (r : removes a ≡ true). rw (t, r) p.1) (λ (r : removes a ≡ false). rw (t, r, ← same) h) (true_or_false (removes a)))
      (λ (f : eqb (label e) (label a) ≡ false).
      let ne : label a ≡ label e → ⊥ = λ (q : label a ≡ label e). eqb-false (label e) (label a) f (sym q) in
      rw (f, named_change a es (label e) ne, p.0) (apart_change a es p.1))
      (true_or_false (eqb (label e) (label a)))

  pub changes_apart : (held brought : List E) → apart label held ≡ true → apart label (changes label removes held brought) ≡ true
  unfolding changes
  changes_apart held [] h = h
  changes_apart held (a ∷ more) h = changes_apart (change label removes a held) more (apart_change a held h)

  -- ---- those of other labels
  those_change : (such : ℕ → Bool) (a : E) (held : List E) → such (label a) ≡ false → those label such (change label removes a held) ≡ those label such held
  unfolding those change
  those_change such a [] out =
      ⊎_elim (λ (r : removes a ≡ true). rw r) (λ (r : removes a ≡ false). rw (r, out)) (true_or_false (removes a))
  those_change such a (e ∷ es) out =
      ⊎_elim
      (λ (t : eqb (label e) (label a) ≡ true).
      let gone : such (label e) ≡ false = ap such (eqb-true (label e) (label a) t) ∙ out in
      ⊎_elim (λ (r : removes a ≡ true). rw (t, r, gone)) (λ (r : removes a ≡ false). rw (t, r, gone, out)) (true_or_false (removes a)))
      (λ (f : eqb (label e) (label a) ≡ false). rw (f, those_change such a es out))
      (true_or_false (eqb (label e) (label a)))

  -- labels of which the update brings none
  pub those_kept : (such : ℕ → Bool) (held brought : List E) → ((k : ℕ) → named label k brought ≡ true → such k ≡ false)
      → those label such (changes label removes held brought) ≡ those label such held
  unfolding changes named
  those_kept such held [] out = refl
  those_kept such held (a ∷ more) out =
      those_kept such (change label removes a held) more (λ k h. out k (rw h (or-true (eqb (label a) k))))
      ∙ those_change such a held (out (label a) (rw (eq-eqb (label a) (label a) refl)))

  -- what the update doesn't name stays as it was, in order
  pub others_kept : (held brought : List E)
      → those label (λ k. not (named label k brought)) (changes label removes held brought) ≡ those label (λ k. not (named label k brought)) held
  others_kept held brought = those_kept (λ k. not (named label k brought)) held brought (λ k h. ap not h)

  -- ---- those of a label that the update names: its last of that label alone, or none if that is a removal
  those_none : (k : ℕ) (es : List E) → named label k es ≡ false → those label (λ x. eqb x k) es ≡ []
  unfolding those named
  those_none k [] out = refl
  those_none k (e ∷ es) out =
      ⊎_elim (λ (t : eqb (label e) k ≡ true). absurd (let h : true ≡ false = rw t at out in let z : ◌≡◌ {A = ℕ} 0 1 = cc in omega arith))
      (λ (f : eqb (label e) k ≡ false). rw f (those_none k es (rw f at out))) (true_or_false (eqb (label e) k))

  change_replaces : (a : E) (held : List E) → apart label held ≡ true → those label (λ x. eqb x (label a)) (change label removes a held) ≡ cond (removes a) [] (a ∷ [])
  unfolding those change apart
  change_replaces a [] h =
      ⊎_elim (λ (r : removes a ≡ true). rw r) (λ (r : removes a ≡ false). rw (r, eq-eqb (label a) (label a) refl)) (true_or_false (removes a))
  change_replaces a (e ∷ es) h =
      let p = both (not (named label (label e) es)) (apart label es) h in
      ⊎_elim
      (λ (t : eqb (label e) (label a) ≡ true).
      let same : label e ≡ label a = eqb-true (label e) (label a) t in
      let alone = those_none (label a) es (rw (← same) (not-true (named label (label e) es) p.0)) in
      ⊎_elim (λ (r : removes a ≡ true). rw (t, r, alone)) (λ (r : removes a ≡ false). rw (t, r, eq-eqb (label a) (label a) refl, alone)) (true_or_false (removes a)))
      (λ (f : eqb (label e) (label a) ≡ false). rw (f, f) (change_replaces a es p.1))
      (true_or_false (eqb (label e) (label a)))

  pub named_replaced : (a : E) (held front back : List E) → apart label held ≡ true → named label (label a) back ≡ false
      → those label (λ x. eqb x (label a)) (changes label removes held (front ++ (a ∷ back))) ≡ cond (removes a) [] (a ∷ [])
  unfolding changes
  named_replaced a held [] back h out =
      those_kept (λ x. eqb x (label a)) (change label removes a held) back
      (λ k is. ne_eqb k (label a) (λ (same : k ≡ label a). let g = ap (λ (x : ℕ). named label x back) same in let z : ◌≡◌ {A = ℕ} 0 1 = cc in omega arith))
      ∙ change_replaces a held h
  named_replaced a held (b ∷ front) back h out = named_replaced a (change label removes b held) front back (apart_change b held h) out

  -- ---- a rule of each attribute: a removal never comes in, so the update's may have a wider rule
  all_change : (good : E → Bool) (a : E) (held : List E) → all_of good held ≡ true → (removes a ≡ false → good a ≡ true) → all_of good (change label removes a held) ≡ true
  unfolding all_of change
  all_change good a [] h new = ⊎_elim (λ (r : removes a ≡ true). rw r) (λ (r : removes a ≡ false). rw (r, new r)) (true_or_false (removes a))
  all_change good a (e ∷ es) h new =
      let p = both (good e) (all_of good es) h in
      ⊎_elim
      (λ (t : eqb (label e) (label a) ≡ true).
      ⊎_elim (λ (r : removes a ≡ true). rw (t, r) p.1) (λ (r : removes a ≡ false). rw (t, r, new r) p.1) (true_or_false (removes a)))
      (λ (f : eqb (label e) (label a) ≡ false). rw (f, p.0) (all_change good a es p.1 new))
      (true_or_false (eqb (label e) (label a)))

  pub changes_all : (good wider : E → Bool) (held brought : List E) → ((a : E) → removes a ≡ false → wider a ≡ true → good a ≡ true) → all_of good held ≡ true
      → all_of wider brought ≡ true → all_of good (changes label removes held brought) ≡ true
  unfolding changes all_of
  changes_all good wider held [] less h n = h
  changes_all good wider held (a ∷ more) less h n =
      let p = both (wider a) (all_of wider more) n in
      changes_all good wider (change label removes a held) more less (all_change good a held h (λ r. less a r p.0)) p.1

-- ---- whole entries stay whole
module _ (label : List ℕ → ℕ) (removes : List ℕ → Bool) {sh : Shape} where
  each_change : {a : List ℕ} {held : List (List ℕ)} → Entry sh a → Each sh held → Each sh (change label removes a held)
  unfolding change
  each_change {a} w each_none =
      ⊎_elim (λ (r : removes a ≡ true). rw r each_none) (λ (r : removes a ≡ false). rw r (each_more w each_none)) (true_or_false (removes a))
  each_change {a} w (each_more {e} {es} v more) =
      ⊎_elim
      (λ (t : eqb (label e) (label a) ≡ true).
      ⊎_elim (λ (r : removes a ≡ true). rw (t, r) more) (λ (r : removes a ≡ false). rw (t, r) (each_more w more)) (true_or_false (removes a)))
      (λ (f : eqb (label e) (label a) ≡ false). rw f (each_more v (each_change w more)))
      (true_or_false (eqb (label e) (label a)))

  pub changes_each : {held brought : List (List ℕ)} → Each sh held → Each sh brought → Each sh (changes label removes held brought)
  unfolding changes
  changes_each h each_none = h
  changes_each {held = held} h (each_more {e = e} w more) = changes_each {held = change label removes e held} (each_change w h) more
