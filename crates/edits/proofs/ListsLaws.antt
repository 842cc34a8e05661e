-- Laws of the edit of an object's lists: whatever the controls, good lists stay good lists of the same kinds, and a list that the update
-- doesn't name stays as it was. Assumes nothing.
use Prim.Native.Nat.{ℕ}
use mathlib.Core.Bool.{Bool, true, false, ◌||◌}
use mathlib.Core.List.{List, [], ◌∷◌}
use mathlib.Core.Logic.{⊎_elim}
use mathlib.Core.Option.{Option, none, some}
use mathlib.Core.Path.{◌≡◌, refl, sym, ap, ◌∙◌}
use native.Mathlib.Omega.{arith}
use lib.ListN.{length}
use lib.Dec.{eqb}
use borrow.Author.Tests.{eqb-true}
use Rattle.octets.specs.Lists.{is_in}
use Rattle.octets.proofs.Cases.{true_or_false}
use Rattle.octets.proofs.Tests.{both}
use Rattle.entries.specs.declared.Shape.{Shape}
use Rattle.entries.specs.Entries.{Each}
use Rattle.entries.specs.Rules.{all_of}
use Rattle.table.specs.Table.{VRPT, FFPT, FSPT}
use Rattle.attributes.specs.Attributes.{label_of, is_removal}
use Rattle.fieldvalue.specs.Value.{is_attributes, is_high}
use Rattle.itemfields.specs.Views.{pointers_good, list_good}
use Rattle.itemfields.specs.Good.{Lists}
use Rattle.edits.specs.Control.{Control, allowed, edited_by}
use Rattle.edits.specs.AttributeEdit.{changes, changes_find}
use Rattle.edits.specs.OnePass.{apart, one_pass, findable}
use Rattle.edits.specs.Lists.{Edit, list_allowed, list_edited, coordinates, control_of, lists_edited, allowed_at, lists_allowed}
use Rattle.edits.proofs.ControlLaws.{edited_each, edited_by_none}
use Rattle.edits.proofs.AttributeLaws.{changes_each}
use Rattle.edits.proofs.GoodLaws.{good_apart, changes_good, edited_pointers}
use Rattle.edits.proofs.OnePassLaws.{one_pass_lem, one_pass_finds}

-- ---- one list, with a control or without
list_each : {sh : Shape} (c : Option Control) {held brought : List (List ℕ)} → Each sh held → Each sh brought → Each sh (list_edited c held brought)
unfolding list_edited edited_by
list_each none h b = h
list_each (some c) h b = edited_each _ _ h b

list_empty : {E : Type 0} (c : Option Control) → ◌≡◌ {A = List E} (list_edited c [] []) []
unfolding list_edited
list_empty none = refl
list_empty (some c) = edited_by_none c

list_pointers : (c : Option Control) (held brought : List (List ℕ)) → pointers_good held ≡ true → pointers_good brought ≡ true → pointers_good (list_edited c held brought) ≡ true
unfolding list_edited edited_by
list_pointers none held brought h b = h
list_pointers (some c) held brought h b = edited_pointers _ _ held brought h b

-- ---- all lists
module _ (u : Edit) (held : ℕ → List (List ℕ)) where
  pub lists_each : (k : ℕ) {sh : Shape} → Each sh (held k) → Each sh (u.lists k) → Each sh (lists_edited u held k)
  unfolding lists_edited
  lists_each k h b =
      ⊎_elim (λ (t : is_attributes k ≡ true). rw t (changes_each _ _ h b))
      (λ (f : is_attributes k ≡ false). rw f (list_each (control_of u held k) h b)) (true_or_false (is_attributes k))

  -- ---- the equations of a list that is not of attributes, with a control and without
  pub lists_controlled : (k : ℕ) (c : Control) → is_attributes k ≡ false → control_of u held k ≡ some c
      → (allowed_at u held k ≡ allowed c (length (held k)) (length (u.lists k))) × (lists_edited u held k ≡ edited_by c (held k) (u.lists k))
  unfolding allowed_at lists_edited list_allowed list_edited
  lists_controlled k c f e = (rw (f, e), rw (f, e))

  pub lists_uncontrolled : (k : ℕ) → is_attributes k ≡ false → control_of u held k ≡ none → (allowed_at u held k ≡ eqb (length (u.lists k)) 0) × (lists_edited u held k ≡ held k)
  unfolding allowed_at lists_edited list_allowed list_edited
  lists_uncontrolled k f e = (rw (f, e), rw (f, e))

  -- a list that is not there and doesn't come
  pub lists_empty : (k : ℕ) → held k ≡ [] → u.lists k ≡ [] → lists_edited u held k ≡ []
  unfolding lists_edited changes
  lists_empty k h b =
      ⊎_elim (λ (t : is_attributes k ≡ true). rw (t, h, b))
      (λ (f : is_attributes k ≡ false). rw (f, h, b) (list_empty (control_of u held k))) (true_or_false (is_attributes k))

  -- a list that the update doesn't name: it brings nothing and has no control
  pub lists_kept : (k : ℕ) → control_of u held k ≡ none → u.lists k ≡ [] → lists_edited u held k ≡ held k
  unfolding lists_edited changes list_edited
  lists_kept k c b =
      ⊎_elim (λ (t : is_attributes k ≡ true). rw (t, b)) (λ (f : is_attributes k ≡ false). rw (f, c)) (true_or_false (is_attributes k))

  pub lists_good : (aall nall k : ℕ) → list_good false aall nall k (held k) ≡ true → list_good true aall nall k (u.lists k) ≡ true
      → list_good false aall nall k (lists_edited u held k) ≡ true
  unfolding lists_edited list_good
  lists_good aall nall k h b =
      ⊎_elim (λ (t : is_attributes k ≡ true). rw t (changes_good (is_high aall nall k) (held k) (u.lists k) (rw t at h) (rw t at b)))
      (λ (f : is_attributes k ≡ false).
      ⊎_elim (λ (p : eqb k FFPT ≡ true). rw (f, p) (list_pointers (control_of u held k) (held k) (u.lists k) (rw (f, p) at h) (rw (f, p) at b)))
      (λ (q : eqb k FFPT ≡ false). rw (f, q)) (true_or_false (eqb k FFPT)))
      (true_or_false (is_attributes k))

-- a list of attributes in one pass
module _ (u : Edit) (held : ℕ → List (List ℕ)) (aall nall k : ℕ) (attributes : is_attributes k ≡ true) (good : list_good false aall nall k (held k) ≡ true)
    (new : list_good true aall nall k (u.lists k) ≡ true) where
  new_apart : apart label_of (u.lists k) ≡ true
  unfolding list_good
  new_apart = good_apart true (is_high aall nall k) [] (u.lists k) (rw attributes at new)

  held_apart : apart label_of (held k) ≡ true
  unfolding list_good
  held_apart = good_apart false (is_high aall nall k) [] (held k) (rw attributes at good)

  pub lists_findable : allowed_at u held k ≡ findable label_of is_removal (held k) (u.lists k)
  unfolding allowed_at
  lists_findable = rw attributes (one_pass_finds label_of is_removal (held k) (u.lists k) new_apart)

  pub lists_one_pass : allowed_at u held k ≡ true → lists_edited u held k ≡ one_pass label_of is_removal (held k) (u.lists k)
  unfolding lists_edited
  lists_one_pass a = rw attributes (one_pass_lem label_of is_removal (held k) (u.lists k) held_apart new_apart (sym lists_findable ∙ a))

-- good lists stay good lists
pub lists_stay_good : {aall nall : ℕ} {kinds : List ℕ} (u : Edit) {held : ℕ → List (List ℕ)} → Lists false aall nall kinds held → Lists true aall nall kinds u.lists
    → Lists false aall nall kinds (lists_edited u held)
lists_stay_good {aall} {nall} u {held} h b = record {
  each = λ k. lists_each u held k (h.each k) (b.each k);
  only = λ k out. lists_empty u held k (h.only k out) (b.only k out);
  good = λ k. lists_good u held aall nall k (h.good k) (b.good k);
}

-- a rule that all kinds keep, at one of them
pub all_in : (rule : ℕ → Bool) (kinds : List ℕ) (k : ℕ) → is_in k kinds ≡ true → all_of rule kinds ≡ true → rule k ≡ true
unfolding all_of is_in
all_in rule [] k is a = absurd (let z : ◌≡◌ {A = ℕ} 0 1 = cc in omega arith)
all_in rule (x ∷ kinds) k is a =
    let p = both (rule x) (all_of rule kinds) a in
    ⊎_elim (λ (t : eqb x k ≡ true). ap rule (sym (eqb-true x k t)) ∙ p.0)
    (λ (f : eqb x k ≡ false). all_in rule kinds k (rw f at is) p.1) (true_or_false (eqb x k))

module _ (u : Edit) (held : ℕ → List (List ℕ)) where
  -- ---- a control acts on its list alone
  pub first_alone : (k : ℕ) → (eqb k VRPT || eqb k FFPT) ≡ false → u.second ≡ none → control_of u held k ≡ none
  unfolding control_of
  first_alone k out s =
      let b = eqb k FSPT || eqb k (coordinates held u.lists) in
      ⊎_elim (λ (t : b ≡ true). rw (out, t, s)) (λ (f : b ≡ false). rw (out, f)) (true_or_false b)

  pub second_alone : (k : ℕ) → (eqb k FSPT || eqb k (coordinates held u.lists)) ≡ false → u.first ≡ none → control_of u held k ≡ none
  unfolding control_of
  second_alone k out e =
      let b = eqb k VRPT || eqb k FFPT in
      ⊎_elim (λ (t : b ≡ true). rw (t, e)) (λ (f : b ≡ false). rw (f, out)) (true_or_false b)

  control_none : (k : ℕ) → u.first ≡ none → u.second ≡ none → control_of u held k ≡ none
  unfolding control_of
  control_none k e s =
      let b = eqb k VRPT || eqb k FFPT in
      ⊎_elim (λ (t : b ≡ true). rw (t, e)) (λ (f : b ≡ false). first_alone k f s) (true_or_false b)

  -- ---- the rule of each list, from the rule of all
  pub allowed_in : (kinds : List ℕ) (k : ℕ) → is_in k kinds ≡ true → lists_allowed kinds u held ≡ true → allowed_at u held k ≡ true
  unfolding lists_allowed
  allowed_in kinds k is a = all_in (allowed_at u held) kinds k is a

  -- ---- an update that brings nothing is allowed, and leaves all lists
  module _ (first_none : u.first ≡ none) (second_none : u.second ≡ none) (empty : (k : ℕ) → u.lists k ≡ []) where
    pub nothing_kept : (k : ℕ) → lists_edited u held k ≡ held k
    nothing_kept k = lists_kept u held k (control_none k first_none second_none) (empty k)

    nothing_at : (k : ℕ) → allowed_at u held k ≡ true
    unfolding allowed_at changes_find list_allowed
    nothing_at k =
        ⊎_elim (λ (t : is_attributes k ≡ true). rw (t, empty k))
        (λ (f : is_attributes k ≡ false). rw (f, control_none k first_none second_none, empty k)) (true_or_false (is_attributes k))

    pub nothing_allowed : (kinds : List ℕ) → lists_allowed kinds u held ≡ true
    unfolding lists_allowed all_of
    nothing_allowed [] = refl
    nothing_allowed (k ∷ kinds) = rw (nothing_at k) (nothing_allowed kinds)
