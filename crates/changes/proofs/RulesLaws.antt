-- The rules as propositions and the codes say the same, both ways. Assumes nothing.
use Prim.Native.Nat.{ℕ}
use mathlib.Core.Bool.{Bool, true, false, not}
use mathlib.Core.List.{List, [], ◌∷◌}
use mathlib.Core.Logic.{◌⊎◌, ⊎_elim}
use mathlib.Core.Option.{Option, none, some}
use mathlib.Core.Path.{◌≡◌, refl}
use native.Mathlib.Omega.{arith}
use lib.ListN.{length}
use lib.Dec.{eqb}
use borrow.Author.Tests.{eqb-true, eqb-false, eq-eqb, ne_eqb, not-true}
use Rattle.octets.proofs.Cases.{true_or_false}
use Rattle.octets.proofs.Tests.{both, all4}
use Rattle.entries.specs.Rules.{all_of}
use Rattle.attributes.specs.Attributes.{label_of, is_removal}
use Rattle.fieldvalue.specs.Value.{is_attributes}
use Rattle.items.specs.Item.{Item}
use Rattle.held.specs.Chart.{Chart}
use Rattle.edits.specs.Control.{Control, allowed}
use Rattle.edits.specs.AttributeEdit.{named, change, finds, changes_find}
use Rattle.edits.specs.Lists.{Edit, is_none, control_of, allowed_at, lists_allowed}
use Rattle.edits.specs.InsertDelete.{is_absent, no_control, plain_at, insert_allowed, delete_allowed}
use Rattle.edits.proofs.ControlLaws.{allowed_numbers, allowed_told}
use Rattle.edits.proofs.ListsLaws.{lists_controlled, lists_uncontrolled}
use Rattle.changes.specs.Change.{Amendment, edit_of, Change}
use Rattle.changes.specs.Amend.{kinds_of, identity_same, edit_allowed, amendment_code, change_fault}
use Rattle.changes.specs.Rules.{All, Finds, ListKept, SameIdentity, Targets, InsertKept, DeleteKept, ModifyKept, Keeps, Acceptable}
use Rattle.changes.specs.Rules.All.{all_none, all_more}
use Rattle.changes.specs.Rules.Finds.{finds_none, finds_more}
use Rattle.changes.specs.Rules.ListKept.{by_label, by_control, by_none}
use Rattle.changes.specs.Rules.Keeps.{keeps_insert, keeps_delete, keeps_modify}
use Rattle.changes.specs.Good.{AllGood, GoodChange}
use Rattle.changes.specs.Good.AllGood.{good_none, good_more}
use Rattle.changes.proofs.AmendLaws.{AllAllowed, Inserts, Edits, Obeys, obeys_told, insert_tested, edit_tested, changes_told, changes_tested}
use Rattle.changes.proofs.AmendLaws.AllAllowed.{allowed_none, allowed_more}
use Rattle.changes.proofs.AmendLaws.Obeys.{obeys_insert, obeys_edit}
use Rattle.changes.proofs.FollowLaws.{follows_told, follows_tested}

-- ---- a test of each of a list, and a rule that each keeps
module _ {E : Type 0} (good : E → Bool) (rule : E → Type 0) where
  pub all_told : ((e : E) → good e ≡ true → rule e) → (es : List E) → all_of good es ≡ true → All rule es
  unfolding all_of
  all_told one [] h = all_none
  all_told one (e ∷ es) h = let p = both (good e) (all_of good es) h in all_more (one e p.0) (all_told one es p.1)

  pub all_tested : ((e : E) → rule e → good e ≡ true) → {es : List E} → All rule es → all_of good es ≡ true
  unfolding all_of
  all_tested one all_none = refl
  all_tested one (all_more {e = e} h all) = rw (one e h) (all_tested one all)

-- ---- controls that stand nowhere, lists that are empty
absent_told : (o : Option Control) → is_absent o ≡ true → o ≡ none
unfolding is_absent
absent_told none h = refl
absent_told (some c) h = absurd (let z : ◌≡◌ {A = ℕ} 0 1 = cc in omega arith)

controls_told : (u : Edit) → no_control u ≡ true → (u.first ≡ none) × (u.second ≡ none)
unfolding no_control
controls_told u h = let p = both (is_absent u.first) (is_absent u.second) h in (absent_told u.first p.0, absent_told u.second p.1)

controls_tested : (u : Edit) → u.first ≡ none → u.second ≡ none → no_control u ≡ true
unfolding no_control is_absent
controls_tested u e f = rw (e, f)

none_told : {E : Type 0} (l : List E) → is_none l ≡ true → l ≡ []
unfolding is_none
none_told [] h = refl
none_told (x ∷ l) h = absurd (let z : ◌≡◌ {A = ℕ} 0 1 = cc in omega arith)

none_tested : {E : Type 0} (l : List E) → l ≡ [] → is_none l ≡ true
unfolding is_none
none_tested l e = rw e

none_length : {E : Type 0} (l : List E) → length l ≡ 0 → l ≡ []
none_length [] h = refl
none_length (x ∷ l) h = absurd (omega arith)

-- ---- "no value 7F"
kept_tested : (e : List ℕ) → is_removal e ≡ false → not (is_removal e) ≡ true
kept_tested e h = rw h

plain_told : (ls : ℕ → List (List ℕ)) (k : ℕ) → plain_at ls k ≡ true → is_attributes k ≡ true → All (λ e. is_removal e ≡ false) (ls k)
unfolding plain_at
plain_told ls k h is =
    all_told (λ e. not (is_removal e)) (λ e. is_removal e ≡ false) (λ e out. not-true (is_removal e) out) (ls k) (rw is at h)

plain_tested : (ls : ℕ → List (List ℕ)) (k : ℕ) → (is_attributes k ≡ true → All (λ e. is_removal e ≡ false) (ls k)) → plain_at ls k ≡ true
unfolding plain_at
plain_tested ls k h =
    ⊎_elim (λ (is : is_attributes k ≡ true). rw is (all_tested (λ e. not (is_removal e)) (λ e. is_removal e ≡ false) kept_tested (h is)))
    (λ (out : is_attributes k ≡ false). rw out) (true_or_false (is_attributes k))

-- ---- "7F removes it and must find it"
found_told : (e : List ℕ) (held : List (List ℕ)) → finds label_of is_removal e held ≡ true → is_removal e ≡ true → named label_of (label_of e) held ≡ true
unfolding finds
found_told e held h is = rw is at h

found_tested : (e : List ℕ) (held : List (List ℕ)) → (is_removal e ≡ true → named label_of (label_of e) held ≡ true) → finds label_of is_removal e held ≡ true
unfolding finds
found_tested e held h =
    ⊎_elim (λ (is : is_removal e ≡ true). rw is (h is)) (λ (out : is_removal e ≡ false). rw out) (true_or_false (is_removal e))

finds_told : (held brought : List (List ℕ)) → changes_find label_of is_removal held brought ≡ true → Finds held brought
unfolding changes_find
finds_told held [] h = finds_none
finds_told held (e ∷ more) h =
    let p = both (finds label_of is_removal e held) (changes_find label_of is_removal (change label_of is_removal e held) more) h in
    finds_more (found_told e held p.0) (finds_told (change label_of is_removal e held) more p.1)

finds_tested : {held brought : List (List ℕ)} → Finds held brought → changes_find label_of is_removal held brought ≡ true
unfolding changes_find
finds_tested finds_none = refl
finds_tested (finds_more {held = held} {e = e} h rest) = rw (found_tested e held h) (finds_tested rest)

-- ---- one list of a modify
module _ (u : Edit) (held : ℕ → List (List ℕ)) (k : ℕ) where
  control_told : (o : Option Control) → is_attributes k ≡ false → control_of u held k ≡ o → allowed_at u held k ≡ true → ListKept u held k
  control_told none out e h =
      let p : eqb (length (u.lists k)) 0 ≡ true = rw (lists_uncontrolled u held k out e).0 at h in
      by_none out e (none_length (u.lists k) (eqb-true (length (u.lists k)) 0 p))
  control_told (some c) out e h =
      by_control {c = c} out e (allowed_numbers c (length (held k)) (length (u.lists k)) (rw (lists_controlled u held k c out e).0 at h))

  pub list_told : allowed_at u held k ≡ true → ListKept u held k
  unfolding allowed_at
  list_told h =
      ⊎_elim (λ (is : is_attributes k ≡ true). by_label is (finds_told (held k) (u.lists k) (rw is at h)))
      (λ (out : is_attributes k ≡ false). control_told (control_of u held k) out refl h) (true_or_false (is_attributes k))

  pub list_tested : ListKept u held k → allowed_at u held k ≡ true
  unfolding allowed_at
  list_tested (by_label is h) = rw is (finds_tested h)
  list_tested (by_control {c = c} out e h) = rw (lists_controlled u held k c out e).0 (allowed_told h)
  list_tested (by_none out e h) = rw ((lists_uncontrolled u held k out e).0, h)

-- ---- identity
same_told : (t held : Item) → identity_same t held ≡ true → SameIdentity t held
unfolding identity_same
same_told t held h =
    let p = all4 (eqb t.foid held.foid) (eqb t.prim held.prim) (eqb t.grup held.grup) (eqb t.objl held.objl) h in
    record {
      foid = eqb-true t.foid held.foid p.0;
      prim = eqb-true t.prim held.prim p.1;
      grup = eqb-true t.grup held.grup p.2;
      objl = eqb-true t.objl held.objl p.3;
    }

same_tested : {t held : Item} → SameIdentity t held → identity_same t held ≡ true
unfolding identity_same
same_tested {t} {held} s =
    rw (eq-eqb t.foid held.foid s.foid, eq-eqb t.prim held.prim s.prim, eq-eqb t.grup held.grup s.grup, eq-eqb t.objl held.objl s.objl)

-- ---- one record
module _ (held : List Item) (a : Amendment) where
  insert_told : Inserts held a → InsertKept held a
  unfolding insert_allowed
  insert_told i =
      let kinds = kinds_of a.object.rcnm in
      let p = both (no_control (edit_of a)) (all_of (plain_at a.object.lists) kinds) i.allowed in
      record {
        instruction = i.ruin;
        free = i.free;
        version = i.version;
        uncontrolled = controls_told (edit_of a) p.0;
        plain = all_told (plain_at a.object.lists) (λ k. is_attributes k ≡ true → All (λ e. is_removal e ≡ false) (a.object.lists k)) (plain_told a.object.lists)
            kinds p.1;
      }

  insert_kept : InsertKept held a → Inserts held a
  unfolding insert_allowed
  insert_kept i = record {
    ruin = i.instruction;
    free = i.free;
    version = i.version;
    allowed = rw (controls_tested (edit_of a) i.uncontrolled.0 i.uncontrolled.1)
        (all_tested (plain_at a.object.lists) (λ k. is_attributes k ≡ true → All (λ e. is_removal e ≡ false) (a.object.lists k)) (plain_tested a.object.lists) i.plain);
  }

  module _ {t : Item} where
    target_told : Edits held a t → Targets held a t
    target_told i = record { found = i.found; version = i.version; identity = same_told a.object t i.identity }

    delete_told : a.ruin ≡ 2 → Edits held a t → DeleteKept held a t
    unfolding edit_allowed delete_allowed
    delete_told e i =
        let kinds = kinds_of t.rcnm in
        let may : delete_allowed kinds (edit_of a) ≡ true = rw (eq-eqb a.ruin 2 e) at i.allowed in
        let p = both (no_control (edit_of a)) (all_of (λ k. is_none (a.object.lists k)) kinds) may in
        record {
          instruction = e;
          target = target_told i;
          uncontrolled = controls_told (edit_of a) p.0;
          empty = all_told (λ k. is_none (a.object.lists k)) (λ k. a.object.lists k ≡ []) (λ k. none_told (a.object.lists k)) kinds p.1;
        }

    modify_told : a.ruin ≡ 3 → Edits held a t → ModifyKept held a t
    unfolding edit_allowed lists_allowed
    modify_told e i =
        let may : lists_allowed (kinds_of t.rcnm) (edit_of a) t.lists ≡ true = rw (ne_eqb a.ruin 2 (λ z. omega arith)) at i.allowed in
        record {
          instruction = e;
          target = target_told i;
          lists = all_told (allowed_at (edit_of a) t.lists) (ListKept (edit_of a) t.lists) (list_told (edit_of a) t.lists) (kinds_of t.rcnm) may;
        }

    delete_kept : DeleteKept held a t → Edits held a t
    unfolding edit_allowed delete_allowed
    delete_kept d = let e = d.instruction in record {
      ruin = ne_eqb a.ruin 1 (λ z. omega arith);
      found = d.target.found;
      version = d.target.version;
      identity = same_tested d.target.identity;
      allowed = rw (eq-eqb a.ruin 2 e, controls_tested (edit_of a) d.uncontrolled.0 d.uncontrolled.1)
          (all_tested (λ k. is_none (a.object.lists k)) (λ k. a.object.lists k ≡ []) (λ k. none_tested (a.object.lists k)) d.empty);
    }

    modify_kept : ModifyKept held a t → Edits held a t
    unfolding edit_allowed lists_allowed
    modify_kept d = let e = d.instruction in record {
      ruin = ne_eqb a.ruin 1 (λ z. omega arith);
      found = d.target.found;
      version = d.target.version;
      identity = same_tested d.target.identity;
      allowed = rw (ne_eqb a.ruin 2 (λ z. omega arith))
          (all_tested (allowed_at (edit_of a) t.lists) (ListKept (edit_of a) t.lists) (list_tested (edit_of a) t.lists) d.lists);
    }

  keeps_obeyed : (a.ruin ≡ 1) ⊎ ((a.ruin ≡ 2) ⊎ (a.ruin ≡ 3)) → Obeys held a → Keeps held a
  keeps_obeyed known (obeys_insert i) = keeps_insert (insert_told i)
  keeps_obeyed known (obeys_edit {t = t} i) =
      ⊎_elim (λ (e : a.ruin ≡ 1). absurd (eqb-false a.ruin 1 i.ruin e))
      (λ (o : (a.ruin ≡ 2) ⊎ (a.ruin ≡ 3)).
      ⊎_elim (λ (e : a.ruin ≡ 2). keeps_delete (delete_told e i)) (λ (e : a.ruin ≡ 3). keeps_modify (modify_told e i)) o) known

  -- "RUIN 1 insert, 2 delete, 3 modify in updates"
  pub keeps_told : (a.ruin ≡ 1) ⊎ ((a.ruin ≡ 2) ⊎ (a.ruin ≡ 3)) → amendment_code held a ≡ 0 → Keeps held a
  keeps_told known h = keeps_obeyed known (obeys_told held a h)

  pub keeps_tested : Keeps held a → amendment_code held a ≡ 0
  keeps_tested (keeps_insert i) = insert_tested held a (insert_kept i)
  keeps_tested (keeps_delete i) = edit_tested held a (delete_kept i)
  keeps_tested (keeps_modify i) = edit_tested held a (modify_kept i)

-- ---- the update whole
records_told : {aall nall : ℕ} {held : List Item} {us : List Amendment} → AllGood aall nall us → AllAllowed held us → All (Keeps held) us
records_told good_none allowed_none = all_none
records_told {held = held} (good_more {a = a} good goods) (allowed_more e all) = all_more (keeps_told held a good.known e) (records_told goods all)

records_tested : {held : List Item} {us : List Amendment} → All (Keeps held) us → AllAllowed held us
records_tested all_none = allowed_none
records_tested {held = held} (all_more {e = a} h all) = allowed_more (keeps_tested held a h) (records_tested all)

pub acceptable_told : (c : Chart) {u : Change} → GoodChange u → (change_fault c u).code ≡ 0 → Acceptable c u
acceptable_told c {u} v fault =
    let p = changes_told c u fault in record { header = follows_told c.header u p.0; records = records_told v.records p.1 }

pub acceptable_tested : {c : Chart} {u : Change} → Acceptable c u → (change_fault c u).code ≡ 0
acceptable_tested {c} {u} h = changes_tested c u (follows_tested h.header) (records_tested h.records)
