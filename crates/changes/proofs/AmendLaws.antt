-- What it means that an update has no fault: it follows the chart, and each of its records is allowed; and what an allowed record has.
-- Assumes nothing.
use Prim.Native.Nat.{ℕ, ◌+◌}
use mathlib.Core.Bool.{Bool, true, false, cond}
use mathlib.Core.List.{List, [], ◌∷◌}
use mathlib.Core.Logic.{⊎_elim}
use mathlib.Core.Option.{Option, none, some}
use mathlib.Core.Path.{◌≡◌, refl}
use native.Mathlib.Omega.{arith}
use lib.Dec.{eqb}
use borrow.Author.Tests.{eqb-true, eqb-false, eq-eqb}
use Rattle.answers.specs.First.{first_by}
use Rattle.octets.proofs.Cases.{true_or_false}
use Rattle.answers.specs.Answer.{refusal}
use Rattle.answers.specs.declared.refusal.Refusal.{Refusal}
use Rattle.items.specs.Item.{Item, item_name}
use Rattle.edits.specs.InsertDelete.{insert_allowed}
use Rattle.held.specs.Chart.{Chart}
use Rattle.changes.specs.Change.{Amendment, edit_of, Change}
use Rattle.changes.specs.Follow.{follow_code}
use Rattle.changes.specs.Amend.{held_by, kinds_of, insert_code, identity_same, edit_allowed, modify_code, found_code, amendment_code, amendments_fault, change_fault}

-- ---- each of these records is allowed
pub data AllAllowed (held : List Item) : List Amendment → Type 0 where
  allowed_none : AllAllowed held []
  allowed_more : {a : Amendment} {more : List Amendment} → amendment_code held a ≡ 0 → AllAllowed held more → AllAllowed held (a ∷ more)

-- a refusal of its own code, or what comes after
passed : (code k : ℕ) (rest : Refusal) → (cond (eqb code 0) rest (refusal code k 0)).code ≡ 0 → (code ≡ 0) × (rest.code ≡ 0)
passed code k rest h =
    ⊎_elim (λ (e : eqb code 0 ≡ true). (eqb-true code 0 e, rw e at h))
    (λ (e : eqb code 0 ≡ false). let z : code ≡ 0 = rw e at h in absurd (eqb-false code 0 e z)) (true_or_false (eqb code 0))

passes : (code k : ℕ) (rest : Refusal) → code ≡ 0 → rest.code ≡ 0 → (cond (eqb code 0) rest (refusal code k 0)).code ≡ 0
passes code k rest e h = rw (eq-eqb code 0 e) h

amendments_told : (held : List Item) (k : ℕ) (us : List Amendment) → (amendments_fault held k us).code ≡ 0 → AllAllowed held us
unfolding amendments_fault first_by
amendments_told held k [] h = allowed_none
amendments_told held k (a ∷ us) h =
    let p = passed (amendment_code held a) k (amendments_fault held (k + 1) us) h in
    allowed_more p.0 (amendments_told held (k + 1) us p.1)

amendments_tested : {held : List Item} (k : ℕ) {us : List Amendment} → AllAllowed held us → (amendments_fault held k us).code ≡ 0
unfolding amendments_fault first_by
amendments_tested k allowed_none = refl
amendments_tested {held} k (allowed_more {a = a} {more = us} e all) =
    passes (amendment_code held a) k (amendments_fault held (k + 1) us) e (amendments_tested (k + 1) all)

pub changes_told : (c : Chart) (u : Change) → (change_fault c u).code ≡ 0 → (follow_code c.header u ≡ 0) × AllAllowed c.items u.amendments
unfolding change_fault first_by
changes_told c u h =
    let p = passed (follow_code c.header u) 1 (amendments_fault c.items 2 u.amendments) h in
    (p.0, amendments_told c.items 2 u.amendments p.1)

pub changes_tested : (c : Chart) (u : Change) → follow_code c.header u ≡ 0 → AllAllowed c.items u.amendments → (change_fault c u).code ≡ 0
unfolding change_fault first_by
changes_tested c u e all = passes (follow_code c.header u) 1 (amendments_fault c.items 2 u.amendments) e (amendments_tested 2 all)

-- ---- what an allowed record has: an insert
pub record Inserts (held : List Item) (a : Amendment) : Type 0 where
  pub ruin : a.ruin ≡ 1
  pub free : held_by held (item_name a.object) ≡ none
  pub version : a.object.version ≡ 1
  pub allowed : insert_allowed (kinds_of a.object.rcnm) (edit_of a) ≡ true

-- a delete or a modify of what is held as t
pub record Edits (held : List Item) (a : Amendment) (t : Item) : Type 0 where
  pub ruin : eqb a.ruin 1 ≡ false
  pub found : held_by held (item_name a.object) ≡ some t
  pub version : a.object.version ≡ t.version + 1
  pub identity : identity_same a.object t ≡ true
  pub allowed : edit_allowed a t ≡ true

pub data Obeys (held : List Item) (a : Amendment) : Type 0 where
  obeys_insert : Inserts held a → Obeys held a
  obeys_edit : {t : Item} → Edits held a t → Obeys held a

-- out of a code and of the next behind it
pub no_code : (b : Bool) (x y : ℕ) → (y ≡ 0 → ⊥) → cond b x y ≡ 0 → (b ≡ true) × (x ≡ 0)
no_code true x y ne h = (refl, h)
no_code false x y ne h = absurd (ne h)

module _ (held : List Item) (a : Amendment) where
  obeys_none : held_by held (item_name a.object) ≡ none → found_code a none ≡ 0 → Obeys held a
  unfolding found_code insert_code
  obeys_none e h =
      let p = no_code (eqb a.ruin 1) (insert_code a) 13 (λ z. omega arith) h in
      let q = no_code (eqb a.object.version 1) (cond (insert_allowed (kinds_of a.object.rcnm) (edit_of a)) 0 16) 14 (λ z. omega arith) p.1 in
      let r = no_code (insert_allowed (kinds_of a.object.rcnm) (edit_of a)) 0 16 (λ z. omega arith) q.1 in
      obeys_insert (record { ruin = eqb-true a.ruin 1 p.0; free = e; version = eqb-true a.object.version 1 q.0; allowed = r.0 })

  edits_told : (t : Item) → held_by held (item_name a.object) ≡ some t → eqb a.ruin 1 ≡ false → modify_code a t ≡ 0 → Edits held a t
  unfolding modify_code
  edits_told t e f h =
      let p = no_code (eqb a.object.version (t.version + 1)) (cond (identity_same a.object t) (cond (edit_allowed a t) 0 16) 15) 14 (λ z. omega arith) h in
      let q = no_code (identity_same a.object t) (cond (edit_allowed a t) 0 16) 15 (λ z. omega arith) p.1 in
      let r = no_code (edit_allowed a t) 0 16 (λ z. omega arith) q.1 in
      record { ruin = f; found = e; version = eqb-true a.object.version (t.version + 1) p.0; identity = q.0; allowed = r.0 }

  obeys_some : (t : Item) → held_by held (item_name a.object) ≡ some t → found_code a (some t) ≡ 0 → Obeys held a
  unfolding found_code
  obeys_some t e h =
      ⊎_elim (λ (g : eqb a.ruin 1 ≡ true). let z : ◌≡◌ {A = ℕ} 13 0 = rw g at h in absurd (omega arith))
      (λ (g : eqb a.ruin 1 ≡ false). obeys_edit (edits_told t e g (rw g at h))) (true_or_false (eqb a.ruin 1))

  obeys_found : (o : Option Item) → held_by held (item_name a.object) ≡ o → found_code a o ≡ 0 → Obeys held a
  obeys_found none e h = obeys_none e h
  obeys_found (some t) e h = obeys_some t e h

  pub obeys_told : amendment_code held a ≡ 0 → Obeys held a
  unfolding amendment_code
  obeys_told h = obeys_found (held_by held (item_name a.object)) refl h

  pub insert_tested : Inserts held a → amendment_code held a ≡ 0
  unfolding amendment_code found_code insert_code
  insert_tested i = rw (i.free, eq-eqb a.ruin 1 i.ruin, eq-eqb a.object.version 1 i.version, i.allowed)

  pub edit_tested : {t : Item} → Edits held a t → amendment_code held a ≡ 0
  unfolding amendment_code found_code modify_code
  edit_tested {t} i = rw (i.found, i.ruin, eq-eqb a.object.version (t.version + 1) i.version, i.identity, i.allowed)

  pub obeys_tested : Obeys held a → amendment_code held a ≡ 0
  obeys_tested (obeys_insert i) = insert_tested i
  obeys_tested (obeys_edit i) = edit_tested i
