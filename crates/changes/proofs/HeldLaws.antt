-- What is held under a name, before and after a record of an update: the record's own name, and any other. Assumes nothing.
use Prim.Native.Nat.{ℕ}
use mathlib.Core.Bool.{true, false}
use mathlib.Core.List.{List, [], ◌∷◌}
use mathlib.Core.Logic.{⊎_elim}
use mathlib.Core.Option.{none, some}
use mathlib.Core.Path.{◌≡◌, refl, sym, ◌∙◌}
use native.Mathlib.Omega.{arith}
use lib.Dec.{ltb, eqb}
use borrow.Author.Tests.{ltb-true, eqb-true, eq-eqb, ne_eqb}
use Rattle.octets.proofs.Cases.{true_or_false}
use Rattle.items.specs.Item.{Item, item_name}
use Rattle.merge.specs.Updated.{Differs}
use Rattle.merge.specs.Updated.Differs.{diff_none, diff_more}
use Rattle.merge.specs.Update.{placed, without, changed, obeyed, result}
use Rattle.changes.specs.Change.{Amendment}
use Rattle.changes.specs.Amend.{held_by, amendment_code}
use Rattle.changes.specs.Updated.{amended, by_amendment}
use Rattle.changes.proofs.AmendLaws.{AllAllowed}
use Rattle.changes.proofs.AmendLaws.AllAllowed.{allowed_none, allowed_more}
use Rattle.changes.proofs.FitLaws.{amended_name}

-- the names of an update's records
abbrev pub name_of : Amendment → ℕ
name_of a = item_name a.object

-- ---- an insert
placed_other : (new : Item) (n : ℕ) (l : List Item) → (item_name new ≡ n → ⊥) → held_by (placed item_name new l) n ≡ held_by l n
unfolding held_by placed
placed_other new n [] ne = rw (ne_eqb (item_name new) n ne)
placed_other new n (t ∷ ts) ne =
    ⊎_elim (λ (h : ltb (item_name t) (item_name new) ≡ true). rw (h, placed_other new n ts ne))
    (λ (h : ltb (item_name t) (item_name new) ≡ false). rw (h, ne_eqb (item_name new) n ne)) (true_or_false (ltb (item_name t) (item_name new)))

pub placed_held : (new : Item) (l : List Item) → held_by (placed item_name new l) (item_name new) ≡ some new
unfolding held_by placed
placed_held new [] = rw (eq-eqb (item_name new) (item_name new) refl)
placed_held new (t ∷ ts) =
    ⊎_elim (λ (h : ltb (item_name t) (item_name new) ≡ true).
    let less = ltb-true (item_name t) (item_name new) h in
    rw (h, ne_eqb (item_name t) (item_name new) (λ z. omega arith), placed_held new ts))
    (λ (h : ltb (item_name t) (item_name new) ≡ false). rw (h, eq-eqb (item_name new) (item_name new) refl)) (true_or_false (ltb (item_name t) (item_name new)))

-- ---- a delete
without_other : (m n : ℕ) (l : List Item) → (m ≡ n → ⊥) → held_by (without item_name m l) n ≡ held_by l n
unfolding held_by without
without_other m n [] ne = refl
without_other m n (t ∷ ts) ne =
    ⊎_elim (λ (h : eqb (item_name t) m ≡ true).
    let same = eqb-true (item_name t) m h in
    rw (h, ne_eqb (item_name t) n (λ z. ne (sym same ∙ z)), without_other m n ts ne))
    (λ (h : eqb (item_name t) m ≡ false). rw (h, without_other m n ts ne)) (true_or_false (eqb (item_name t) m))

pub without_held : (n : ℕ) (l : List Item) → held_by (without item_name n l) n ≡ none
unfolding held_by without
without_held n [] = refl
without_held n (t ∷ ts) =
    ⊎_elim (λ (h : eqb (item_name t) n ≡ true). rw (h, without_held n ts))
    (λ (h : eqb (item_name t) n ≡ false). rw (h, without_held n ts, h)) (true_or_false (eqb (item_name t) n))

-- ---- a modify
changed_other : (a : Amendment) (m n : ℕ) (l : List Item) → (m ≡ n → ⊥) → held_by (changed item_name m (amended a) l) n ≡ held_by l n
unfolding held_by changed
changed_other a m n [] ne = refl
changed_other a m n (t ∷ ts) ne =
    ⊎_elim (λ (h : eqb (item_name t) m ≡ true).
    let same = eqb-true (item_name t) m h in
    let out = ne_eqb (item_name t) n (λ z. ne (sym same ∙ z)) in
    rw (h, amended_name a t, out, changed_other a m n ts ne))
    (λ (h : eqb (item_name t) m ≡ false). rw (h, changed_other a m n ts ne)) (true_or_false (eqb (item_name t) m))

pub changed_held : (a : Amendment) (n : ℕ) (l : List Item) (held : Item) → held_by l n ≡ some held → held_by (changed item_name n (amended a) l) n ≡ some (amended a held)
unfolding held_by changed
changed_held a n [] held e = absurd (let z : ◌≡◌ {A = ℕ} 0 1 = cc in omega arith)
changed_held a n (t ∷ ts) held e =
    ⊎_elim (λ (h : eqb (item_name t) n ≡ true).
    let is : some t ≡ some held = rw h at e in
    let same : t ≡ held = cc in
    rw (h, amended_name a t, h, same))
    (λ (h : eqb (item_name t) n ≡ false). rw (h, h) (changed_held a n ts held (rw h at e))) (true_or_false (eqb (item_name t) n))

-- ---- one record, and a name that it doesn't have
pub obeyed_other : (a : Amendment) (n : ℕ) (l : List Item) → (name_of a ≡ n → ⊥) → held_by (obeyed by_amendment a l) n ≡ held_by l n
unfolding obeyed
obeyed_other a n l ne =
    ⊎_elim (λ (i : eqb a.ruin 1 ≡ true). rw i (placed_other a.object n l ne))
    (λ (i : eqb a.ruin 1 ≡ false).
    ⊎_elim (λ (d : eqb a.ruin 2 ≡ true). rw (i, d) (without_other (name_of a) n l ne))
    (λ (d : eqb a.ruin 2 ≡ false). rw (i, d) (changed_other a (name_of a) n l ne)) (true_or_false (eqb a.ruin 2)))
    (true_or_false (eqb a.ruin 1))

-- all records, and a name that none of them has
pub result_other : (n : ℕ) (l : List Item) {us : List Amendment} → Differs name_of n us → held_by (result by_amendment l us) n ≡ held_by l n
unfolding result
result_other n l diff_none = refl
result_other n l (diff_more {u = a} {us = us} ne rest) = result_other n (obeyed by_amendment a l) rest ∙ obeyed_other a n l (λ z. ne (sym z))

-- ---- a record is allowed or not whatever records of other names came first
pub allowed_obeyed : (a : Amendment) {l : List Item} {us : List Amendment} → Differs name_of (name_of a) us → AllAllowed l us → AllAllowed (obeyed by_amendment a l) us
unfolding amendment_code
allowed_obeyed a diff_none allowed_none = allowed_none
allowed_obeyed a {l} (diff_more {u = b} ne rest) (allowed_more e all) =
    allowed_more {a = b} (rw (obeyed_other a (name_of b) l ne) e) (allowed_obeyed a rest all)
