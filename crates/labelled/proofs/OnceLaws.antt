-- The edit by labels whole: the numbers of the table say which of the update's attributes are new and which removals find nothing, the
-- edited list has no more bytes than both lists together, and the table is blank again. Assumes nothing.
use Prim.Native.Nat.{ℕ, ◌+◌, ◌≤◌, ◌<◌}
use mathlib.Core.Bool.{Bool, true, false, not, cond}
use mathlib.Core.List.{List, [], ◌∷◌, ◌++◌, flatten, append-nil}
use mathlib.Core.Logic.{⊎_elim}
use mathlib.Core.Path.{◌≡◌, refl, sym, ap, ◌∙◌}
use native.Mathlib.Omega.{arith}
use lib.ListN.{length, get_or, length-append, get_or-eq_default}
use lib.Dec.{eqb, ltb}
use borrow.Author.Tests.{eq-eqb, ne_eqb, eqb-true, eqb-false, ltb-true, not-true}
use Rattle.std.specs.Prelude.{Option}
use Rattle.octets.specs.Area.{Wrote}
use Rattle.octets.proofs.AreaLaws.{wrote_join, wrote_as, wrote_length}
use Rattle.octets.proofs.Cases.{true_or_false, le_or_lt}
use Rattle.octets.proofs.Tests.{both, or_right}
use Rattle.entries.specs.Entries.{entries_of}
use Rattle.entries.specs.Rules.{all_of}
use Rattle.entries.proofs.EntriesLaws.{flatten_append, end_within}
use Rattle.attributes.specs.Attributes.{attribute, label_of, is_removal}
use Rattle.edits.specs.AttributeEdit.{named, finds}
use Rattle.edits.specs.OnePass.{apart, instead, worked, fresh, one_pass, findable}
use Rattle.splice.specs.Put.{ListPut}
use Rattle.labelled.specs.Table.{Labelled, Blank, place_in, is_low, Indexed, Passed, used, cleared, new_by, found_of, found_by}
use Rattle.splice.proofs.PutLaws.{never}
use Rattle.labelled.proofs.FoundLaws.{place_unnamed, place_none, found}

same_both : (b : Bool) (x : ℕ) → cond b x x ≡ x
same_both true x = refl
same_both false x = refl

total_cons : (x : List ℕ) (xs : List (List ℕ)) → length (flatten (x ∷ xs)) ≡ length x + length (flatten xs)
unfolding flatten
total_cons x xs = length-append x (flatten xs)

one_alone : (x : List ℕ) → length (flatten (x ∷ [])) ≡ length x
unfolding flatten
one_alone x = ap length (append-nil x)

-- ---- bytes: what stands in the place of a held attribute is no more than itself and what is no longer new
fresh_none : (bs : List (List ℕ)) → fresh label_of [] bs ≡ bs
unfolding fresh named
fresh_none [] = refl
fresh_none (a ∷ more) = ap (λ (l : List (List ℕ)). a ∷ l) (fresh_none more)

module _ (e : List ℕ) (es : List (List ℕ)) where
  fresh_less : (bs : List (List ℕ)) → length (flatten (fresh label_of (e ∷ es) bs)) ≤ length (flatten (fresh label_of es bs))
  unfolding fresh named
  fresh_less [] = omega arith
  fresh_less (a ∷ more) =
      let less = fresh_less more in
      ⊎_elim
      (λ (y : named label_of (label_of a) es ≡ true). rw (y, or_right (eqb (label_of e) (label_of a)) true refl) less)
      (λ (y : named label_of (label_of a) es ≡ false).
      ⊎_elim
      (λ (x : eqb (label_of e) (label_of a) ≡ true). rw (x, y, total_cons a (fresh label_of es more)) (omega (arith, less)))
      (λ (x : eqb (label_of e) (label_of a) ≡ false). rw (x, y, total_cons a (fresh label_of es more), total_cons a (fresh label_of (e ∷ es) more)) (omega (arith, less)))
      (true_or_false (eqb (label_of e) (label_of a))))
      (true_or_false (named label_of (label_of a) es))

  put_less : (a : List ℕ) → length (flatten (cond (is_removal a) [] (a ∷ []))) ≤ length a
  unfolding flatten
  put_less a =
      ⊎_elim (λ (r : is_removal a ≡ true). rw r (omega arith)) (λ (r : is_removal a ≡ false). rw (r, append-nil a) (omega arith)) (true_or_false (is_removal a))

  place_bytes : named label_of (label_of e) es ≡ false → (bs : List (List ℕ))
      → length (flatten (instead label_of is_removal e bs)) + length (flatten (fresh label_of (e ∷ es) bs)) ≤ length e + length (flatten (fresh label_of es bs))
  unfolding instead fresh named
  place_bytes alone [] = rw (one_alone e) (omega arith)
  place_bytes alone (a ∷ more) =
      let rest = place_bytes alone more in
      ⊎_elim
      (λ (y : eqb (label_of a) (label_of e) ≡ true).
      let same : label_of a ≡ label_of e = eqb-true (label_of a) (label_of e) y in
      let x : eqb (label_of e) (label_of a) ≡ true = eq-eqb (label_of e) (label_of a) (sym same) in
      let out : named label_of (label_of a) es ≡ false = rw same alone in
      rw (y, x, out, total_cons a (fresh label_of es more)) (omega (arith, put_less a, fresh_less more)))
      (λ (y : eqb (label_of a) (label_of e) ≡ false).
      let x : eqb (label_of e) (label_of a) ≡ false = ne_eqb (label_of e) (label_of a) (λ (z : label_of e ≡ label_of a). eqb-false (label_of a) (label_of e) y (sym z)) in
      ⊎_elim
      (λ (n : named label_of (label_of a) es ≡ true). rw (y, x, n) rest)
      (λ (n : named label_of (label_of a) es ≡ false).
      rw (y, x, n, total_cons a (fresh label_of es more), total_cons a (fresh label_of (e ∷ es) more)) (omega (arith, rest)))
      (true_or_false (named label_of (label_of a) es)))
      (true_or_false (eqb (label_of a) (label_of e)))

once_apart : (e : List ℕ) (es : List (List ℕ)) → apart label_of (e ∷ es) ≡ true → (named label_of (label_of e) es ≡ false) × (apart label_of es ≡ true)
unfolding apart
once_apart e es once =
    let q = both (not (named label_of (label_of e) es)) (apart label_of es) once in (not-true (named label_of (label_of e) es) q.0, q.1)

worked_cons : (e : List ℕ) (es bs : List (List ℕ)) → length (flatten (worked label_of is_removal (e ∷ es) bs))
    ≡ length (flatten (instead label_of is_removal e bs)) + length (flatten (worked label_of is_removal es bs))
unfolding worked
worked_cons e es bs =
    ap length (flatten_append (instead label_of is_removal e bs) (worked label_of is_removal es bs))
    ∙ length-append (flatten (instead label_of is_removal e bs)) (flatten (worked label_of is_removal es bs))

worked_none : (bs : List (List ℕ)) → length (flatten (worked label_of is_removal [] bs)) ≡ 0
unfolding worked flatten
worked_none bs = refl

pub one_pass_bytes : (held bs : List (List ℕ)) → apart label_of held ≡ true
    → length (flatten (worked label_of is_removal held bs)) + length (flatten (fresh label_of held bs)) ≤ length (flatten held) + length (flatten bs)
one_pass_bytes [] bs once = omega (arith, worked_none bs, ap (λ (l : List (List ℕ)). length (flatten l)) (fresh_none bs))
one_pass_bytes (e ∷ es) bs once =
    let p = once_apart e es once in
    omega (arith, one_pass_bytes es bs p.1, place_bytes e es p.0 bs, worked_cons e es bs, total_cons e es)

-- ---- what is new and what is found, by numbers that tell which labels are held
module _ (t : List ℕ) (held : List (List ℕ)) where
  Tells : List (List ℕ) → Type 0
  Tells es = (k : ℕ) → k < 65536 → named label_of k es ≡ true → eqb (get_or t k 0) 4294967295 ≡ named label_of k held

  module _ (e : List ℕ) (es : List (List ℕ)) (low : all_of is_low (e ∷ es) ≡ true) (tell : Tells (e ∷ es)) where
    low_both : (label_of e < 65536) × (all_of is_low es ≡ true)
    unfolding all_of is_low
    low_both = let q = both (ltb (label_of e) 65536) (all_of is_low es) low in (ltb-true (label_of e) 65536 q.0, q.1)

    tell_here : eqb (get_or t (label_of e) 0) 4294967295 ≡ named label_of (label_of e) held
    unfolding Tells named
    tell_here = tell (label_of e) low_both.0 (rw (eq-eqb (label_of e) (label_of e) refl))

    tell_more : Tells es
    unfolding Tells named
    tell_more k small h = tell k small (or_right (eqb (label_of e) k) (named label_of k es) h)

  new_by_lem : (es : List (List ℕ)) → all_of is_low es ≡ true → Tells es → new_by t es ≡ fresh label_of held es
  unfolding new_by fresh
  new_by_lem [] low tell = refl
  new_by_lem (e ∷ es) low tell = rw (tell_here e es low tell, new_by_lem es (low_both e es low tell).1 (tell_more e es low tell))

  found_by_lem : (es : List (List ℕ)) → all_of is_low es ≡ true → Tells es → found_by t es ≡ findable label_of is_removal held es
  unfolding found_by found_of findable finds
  found_by_lem [] low tell = refl
  found_by_lem (e ∷ es) low tell = rw (tell_here e es low tell, found_by_lem es (low_both e es low tell).1 (tell_more e es low tell))

-- ---- after both walks over the table
module _ {held brought before t : List ℕ} (two : Labelled held brought) (ix : Indexed brought before) (p : Passed used held before t) where
  tells : (k : ℕ) → k < 65536 → named label_of k (entries_of attribute brought) ≡ true → eqb (get_or t k 0) 4294967295 ≡ named label_of k (entries_of attribute held)
  unfolding place_in used
  tells k small here =
      let some : place_in k brought ≡ 0 → ⊥ = λ (z : place_in k brought ≡ 0). never _ here (place_none k 0 (entries_of attribute brought) z) in
      let there = found k brought (place_in k brought) two.once_new refl some in
      ⊎_elim
      (λ (y : named label_of k (entries_of attribute held) ≡ true). rw (p.is k small, y, ix.is k small, ne_eqb (place_in k brought) 0 some))
      (λ (y : named label_of k (entries_of attribute held) ≡ false).
      rw (p.is k small, y, ix.is k small)
      (ne_eqb (place_in k brought) 4294967295 (λ (z : place_in k brought ≡ 4294967295). omega (arith, z, there.within, two.short_new))))
      (true_or_false (named label_of k (entries_of attribute held)))

  pub new_fresh : new_by t (entries_of attribute brought) ≡ fresh label_of (entries_of attribute held) (entries_of attribute brought)
  unfolding Tells
  new_fresh = new_by_lem t (entries_of attribute held) (entries_of attribute brought) ix.low tells

  pub found_findable : found_by t (entries_of attribute brought) ≡ findable label_of is_removal (entries_of attribute held) (entries_of attribute brought)
  unfolding Tells
  found_findable = found_by_lem t (entries_of attribute held) (entries_of attribute brought) ix.low tells

  pub blank_again : {after : List ℕ} → Passed cleared brought t after → Blank after
  unfolding place_in used cleared
  blank_again {after} q = record {
    size = q.size;
    is = λ (k : ℕ).
        ⊎_elim
        (λ (far : 65536 ≤ k). get_or-eq_default after 0 {n = k} (omega (arith, q.size)))
        (λ (small : k < 65536).
        ⊎_elim
        (λ (y : named label_of k (entries_of attribute brought) ≡ true). q.is k small ∙ rw y)
        (λ (y : named label_of k (entries_of attribute brought) ≡ false).
        let none : get_or before k 0 ≡ 0 = ix.is k small ∙ place_unnamed k 0 0 (entries_of attribute brought) y in
        q.is k small ∙ rw (y, p.is k small, none) (same_both (named label_of k (entries_of attribute held)) 0))
        (true_or_false (named label_of k (entries_of attribute brought))))
        (le_or_lt 65536 k);
  }

-- ---- the whole
module _ {held brought : List ℕ} (two : Labelled held brought) where
  both_bytes : length (flatten (worked label_of is_removal (entries_of attribute held) (entries_of attribute brought)))
      + length (flatten (fresh label_of (entries_of attribute held) (entries_of attribute brought))) ≤ length held + length brought
  both_bytes =
      omega (arith, one_pass_bytes (entries_of attribute held) (entries_of attribute brought) two.once, end_within attribute held, end_within attribute brought)

  pub worked_first : (at room : ℕ) → at + (length held + length brought) ≤ room
      → at + length (flatten (worked label_of is_removal (entries_of attribute held) (entries_of attribute brought))) ≤ room
  worked_first at room h = omega (arith, both_bytes)

  module _ {before t : List ℕ} (ix : Indexed brought before) (p : Passed used held before t) {a b : List ℕ} {at m : ℕ}
      (w : Wrote a at (flatten (worked label_of is_removal (entries_of attribute held) (entries_of attribute brought))) b m) where
    pub fresh_next : at + (length held + length brought) ≤ length a → m + length (flatten (new_by t (entries_of attribute brought))) ≤ length b
    fresh_next h = rw (new_fresh two ix p) (omega (arith, both_bytes, w.end, wrote_length w))

    pub attributes_put : {c : List ℕ} {r : Option ℕ} → ListPut (found_by t (entries_of attribute brought)) (flatten (new_by t (entries_of attribute brought))) b m c r
        → ListPut (findable label_of is_removal (entries_of attribute held) (entries_of attribute brought))
        (flatten (one_pass label_of is_removal (entries_of attribute held) (entries_of attribute brought))) a at c r
    unfolding one_pass
    attributes_put q =
        let es = entries_of attribute held in
        let new = entries_of attribute brought in
        let same = found_findable two ix p in
        let bytes : flatten (worked label_of is_removal es new) ++ flatten (new_by t new) ≡ flatten (worked label_of is_removal es new ++ fresh label_of es new) =
        rw (new_fresh two ix p) (sym (flatten_append (worked label_of is_removal es new) (fresh label_of es new))) in
        record {
          no = λ e. sym same ∙ q.no e;
          yes = λ e is. let y = q.yes e is in (sym same ∙ y.0, wrote_as _ bytes (wrote_join w y.1));
          size = q.size ∙ wrote_length w;
        }
