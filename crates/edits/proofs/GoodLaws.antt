-- Good lists stay good when they are edited: "No ATTL twice" and good values of attributes, "RIND 2 or 3" and the text of pointers. The
-- walk with the labels met is three plain facts: each value good, the labels apart, none met before. Assumes nothing.
use Prim.Native.Nat.{ℕ}
use mathlib.Core.Bool.{Bool, true, false, not, cond, ◌&&◌, or-true}
use mathlib.Core.List.{List, [], ◌∷◌}
use mathlib.Core.Path.{◌≡◌, refl, sym, ap}
use native.Mathlib.Omega.{arith}
use lib.Dec.{eqb}
use borrow.Author.Tests.{eq-eqb, ne_eqb, not-true}
use Rattle.octets.specs.Lists.{is_in}
use Rattle.octets.proofs.Tests.{both}
use Rattle.entries.specs.Rules.{all_of}
use Rattle.headvalues.specs.Text.{text_good}
use Rattle.attributes.specs.Attributes.{label_of, is_removal, value_good, rind_good, comment_of}
use Rattle.itemfields.specs.Views.{attributes_good, pointers_good}
use Rattle.edits.specs.Control.{edited}
use Rattle.edits.specs.AttributeEdit.{named, changes}
use Rattle.edits.specs.OnePass.{apart}
use Rattle.edits.proofs.ControlLaws.{edited_all}
use Rattle.edits.proofs.AttributeLaws.{changes_apart, changes_all}

-- ---- out of a choice and out of a disjunction
passed : (b c : Bool) → cond b false c ≡ true → (b ≡ false) × (c ≡ true)
passed true c h = absurd (let z : ◌≡◌ {A = ℕ} 0 1 = cc in omega arith)
passed false c h = (refl, h)

differ : {b c : Bool} → b ≡ true → c ≡ false → b ≡ c → ⊥
differ t f e = let z : ◌≡◌ {A = ℕ} 0 1 = cc in omega arith

-- ---- the walk and the three facts
module _ (update high : Bool) where
  pub good_values : (seen : List ℕ) (es : List (List ℕ)) → attributes_good update high seen es ≡ true → all_of (value_good update high) es ≡ true
  unfolding attributes_good all_of
  good_values seen [] h = refl
  good_values seen (e ∷ es) h =
      let p = passed (is_in (label_of e) seen) (value_good update high e && attributes_good update high (label_of e ∷ seen) es) h in
      let q = both (value_good update high e) (attributes_good update high (label_of e ∷ seen) es) p.1 in
      rw q.0 (good_values (label_of e ∷ seen) es q.1)

  good_unseen : (k : ℕ) (seen : List ℕ) (es : List (List ℕ)) → is_in k seen ≡ true → attributes_good update high seen es ≡ true → named label_of k es ≡ false
  unfolding attributes_good named is_in
  good_unseen k seen [] is h = refl
  good_unseen k seen (e ∷ es) is h =
      let p = passed (is_in (label_of e) seen) (value_good update high e && attributes_good update high (label_of e ∷ seen) es) h in
      let q = both (value_good update high e) (attributes_good update high (label_of e ∷ seen) es) p.1 in
      let other : eqb (label_of e) k ≡ false = ne_eqb (label_of e) k (λ (same : label_of e ≡ k). differ is p.0 (ap (λ (x : ℕ). is_in x seen) (sym same))) in
      rw other (good_unseen k (label_of e ∷ seen) es (rw is (or-true (eqb (label_of e) k))) q.1)

  pub good_apart : (seen : List ℕ) (es : List (List ℕ)) → attributes_good update high seen es ≡ true → apart label_of es ≡ true
  unfolding attributes_good apart is_in
  good_apart seen [] h = refl
  good_apart seen (e ∷ es) h =
      let p = passed (is_in (label_of e) seen) (value_good update high e && attributes_good update high (label_of e ∷ seen) es) h in
      let q = both (value_good update high e) (attributes_good update high (label_of e ∷ seen) es) p.1 in
      rw (good_unseen (label_of e) (label_of e ∷ seen) es (rw (eq-eqb (label_of e) (label_of e) refl)) q.1) (good_apart (label_of e ∷ seen) es q.1)

  pub good_told : (seen : List ℕ) (es : List (List ℕ)) → all_of (value_good update high) es ≡ true → apart label_of es ≡ true
      → ((k : ℕ) → named label_of k es ≡ true → is_in k seen ≡ false) → attributes_good update high seen es ≡ true
  unfolding attributes_good apart all_of named is_in
  good_told seen [] v apt new = refl
  good_told seen (e ∷ es) v apt new =
      let p = both (value_good update high e) (all_of (value_good update high) es) v in
      let q = both (not (named label_of (label_of e) es)) (apart label_of es) apt in
      let alone = not-true (named label_of (label_of e) es) q.0 in
      rw (new (label_of e) (rw (eq-eqb (label_of e) (label_of e) refl)), p.0)
      (good_told (label_of e ∷ seen) es p.1 q.1
      (λ k is.
      rw (ne_eqb (label_of e) k (λ (same : label_of e ≡ k). differ is alone (ap (λ (x : ℕ). named label_of x es) (sym same))))
      (new k (rw is (or-true (eqb (label_of e) k))))))

-- what is no removal is good in a cell too
kept_value : (high : Bool) (a : List ℕ) → is_removal a ≡ false → value_good true high a ≡ true → value_good false high a ≡ true
unfolding value_good
kept_value high a r h = rw r at h

pub changes_good : (high : Bool) (held brought : List (List ℕ)) → attributes_good false high [] held ≡ true → attributes_good true high [] brought ≡ true
    → attributes_good false high [] (changes label_of is_removal held brought) ≡ true
unfolding is_in
changes_good high held brought h b =
    good_told false high [] (changes label_of is_removal held brought)
    (changes_all label_of is_removal (value_good false high) (value_good true high) held brought (kept_value high)
    (good_values false high [] held h) (good_values true high [] brought b))
    (changes_apart label_of is_removal held brought (good_apart false high [] held h))
    (λ k is. refl)

-- "no value 7F": a list of the update that may stand in a cell
all_plain : (high : Bool) (es : List (List ℕ)) → all_of (value_good true high) es ≡ true → all_of (λ e. not (is_removal e)) es ≡ true → all_of (value_good false high) es ≡ true
unfolding all_of
all_plain high [] v plain = refl
all_plain high (e ∷ es) v plain =
    let p = both (value_good true high e) (all_of (value_good true high) es) v in
    let q = both (not (is_removal e)) (all_of (λ (x : List ℕ). not (is_removal x)) es) plain in
    rw (kept_value high e (not-true (is_removal e) q.0) p.0) (all_plain high es p.1 q.1)

pub plain_good : (high : Bool) (es : List (List ℕ)) → attributes_good true high [] es ≡ true → all_of (λ e. not (is_removal e)) es ≡ true → attributes_good false high [] es ≡ true
unfolding is_in
plain_good high es b plain =
    good_told false high [] es (all_plain high es (good_values true high [] es b) plain) (good_apart true high [] es b) (λ k is. refl)

-- ---- pointers
unfoldable pointer_good : List ℕ → Bool
pointer_good e = rind_good e && text_good false (comment_of e)

pointers_all : (es : List (List ℕ)) → pointers_good es ≡ all_of pointer_good es
unfolding pointers_good all_of pointer_good
pointers_all [] = refl
pointers_all (e ∷ es) = rw (pointers_all es) (grouped (rind_good e) (text_good false (comment_of e)) (all_of pointer_good es))
  where
    grouped : (a b d : Bool) → a && (b && d) ≡ (a && b) && d
    grouped true b d = refl
    grouped false b d = refl

pub edited_pointers : (before out : ℕ) (held new : List (List ℕ)) → pointers_good held ≡ true → pointers_good new ≡ true → pointers_good (edited before out held new) ≡ true
edited_pointers before out held new h n =
    rw (pointers_all (edited before out held new)) (edited_all pointer_good before out held new (rw pointers_all at h) (rw pointers_all at n))
