-- The table of labels, turn by turn: as the update's list is put into it (`Indexing`), and as a walk over a list changes the number of each
-- label that it meets (`Passing`). Assumes nothing.
use Prim.Native.Nat.{ℕ, ◌+◌, ◌≤◌, ◌<◌}
use mathlib.Core.Bool.{Bool, true, false, not, cond, ◌&&◌, ◌||◌}
use mathlib.Core.List.{List, ◌∷◌}
use mathlib.Core.Logic.{⊎_elim}
use mathlib.Core.Path.{◌≡◌, refl, sym, ap, ◌∙◌}
use native.Mathlib.Omega.{arith}
use lib.ListN.{length, take, drop, get_or, set, replicate, length-set, length-replicate, get_or-replicate, get_or-eq_default}
use lib.Seq.{get_or-set_same, get_or-set_other, ext_get_or}
use lib.Dec.{eqb}
use borrow.Author.Tests.{eq-eqb, ne_eqb, lt-ltb, eqb-true, not-true}
use Rattle.octets.proofs.ListLaws.{part_long}
use Rattle.octets.proofs.Cases.{true_or_false, eq_or_ne, le_or_lt}
use Rattle.octets.proofs.Tests.{both}
use Rattle.entries.specs.Entries.{entry_len, entries_of}
use Rattle.entries.specs.Rules.{all_of}
use Rattle.entries.proofs.WalkLaws.{walk_end, walk_more}
use Rattle.attributes.specs.Attributes.{attribute, label_of}
use Rattle.edits.specs.AttributeEdit.{named}
use Rattle.edits.specs.OnePass.{apart}
use Rattle.labelled.specs.Table.{Blank, place_from, place_in, is_low, Indexed, Passed, cleared}

-- ---- one store
pub stored : (t : List ℕ) (i v k : ℕ) → i < length t → get_or (set t i v) k 0 ≡ cond (eqb i k) v (get_or t k 0)
stored t i v k h =
    ⊎_elim (λ (e : i ≡ k). rw (eq-eqb i k e, ← e) (get_or-set_same t i v 0 h))
    (λ (e : i ≡ k → ⊥). rw (ne_eqb i k e) (get_or-set_other t i k v 0 (λ (x : k ≡ i). e (sym x))))
    (eq_or_ne i k)

-- ---- a table of zeros
pub blank_zeros : (n : ℕ) → n ≡ 65536 → Blank (replicate n 0)
blank_zeros n h = record {
  size = length-replicate n 0 ∙ h;
  is = λ (k : ℕ).
      ⊎_elim (λ (b : n ≤ k). get_or-eq_default (replicate n 0) 0 {n = k} (rw (length-replicate {A = ℕ} n 0) b))
      (λ (b : k < n). get_or-replicate n k 0 0 b) (le_or_lt n k);
}

pub blank_is : {t : List ℕ} (n : ℕ) → n ≡ 65536 → Blank t → t ≡ replicate n 0
blank_is {t} n h b =
    ext_get_or 0 t (replicate n 0) (b.size ∙ sym h ∙ sym (length-replicate n 0))
    (λ (i : ℕ) (l : i < length t). b.is i ∙ sym (get_or-replicate n i 0 0 (omega (arith, b.size))))

-- ---- the update's list, as far as `at`
place_step : (k old at : ℕ) (e : List ℕ) (es : List (List ℕ)) (n label : ℕ) → length e ≡ n → label ≡ label_of e
    → place_from k old at (e ∷ es) ≡ place_from k (cond (eqb label k) (at + 1) old) (at + n) es
unfolding place_from
place_step k old at e es n label long told = rw (← long, told)

pub record Indexing (bs t : List ℕ) (at : ℕ) : Type 0 where
  pub size : length t ≡ 65536
  pub low : all_of is_low (entries_of attribute bs) ≡ all_of is_low (entries_of attribute (drop at bs))
  pub is : (k : ℕ) → k < 65536 → place_in k bs ≡ place_from k (get_or t k 0) at (entries_of attribute (drop at bs))

pub indexing_start : (bs : List ℕ) {t : List ℕ} → Blank t → Indexing bs t 0
unfolding place_in
indexing_start bs {t} b = record { size = b.size; low = refl; is = λ (k : ℕ) (h : k < 65536). rw (b.is k) }

module _ {bs t : List ℕ} {at : ℕ} (g : Indexing bs t at) (n : ℕ) (size : n ≡ entry_len attribute (drop at bs)) where
  pub indexing_end : n ≡ 0 → Indexed bs t
  unfolding place_from all_of
  indexing_end h =
      let none = walk_end attribute bs at n size h in
      record { size = g.size; low = g.low ∙ rw none; is = λ (k : ℕ) (b : k < 65536). sym (g.is k b ∙ rw none) }

  pub indexing_on : (n ≡ 0 → ⊥) → at + n ≤ length bs → (label : ℕ) → label ≡ label_of (take n (drop at bs)) → label < 65536
      → Indexing bs (set t label (at + 1)) (at + n)
  unfolding place_from all_of is_low
  indexing_on some fit label told small =
      let more = walk_more attribute bs at n size some in
      record {
        size = length-set t label (at + 1) ∙ g.size;
        low = g.low ∙ rw (more, ← told, lt-ltb label 65536 small);
        is = λ (k : ℕ) (b : k < 65536).
            g.is k b ∙ ap (λ (es : List (List ℕ)). place_from k (get_or t k 0) at es) more
            ∙ place_step k (get_or t k 0) at (take n (drop at bs)) (entries_of attribute (drop (at + n) bs)) n label (part_long bs at n fit) told
            ∙ rw (stored t label (at + 1) k (omega (arith, g.size)));
      }

-- ---- a walk that changes the number of each label, as far as `at`
pub record Passing (f : ℕ → ℕ) (bs before t : List ℕ) (at : ℕ) : Type 0 where
  pub size : length t ≡ 65536
  pub once : apart label_of (entries_of attribute (drop at bs)) ≡ true
  pub here : (k : ℕ) → k < 65536 → named label_of k (entries_of attribute (drop at bs)) ≡ true → get_or t k 0 ≡ get_or before k 0
  pub is : (k : ℕ) → k < 65536 → cond (named label_of k (entries_of attribute bs)) (f (get_or before k 0)) (get_or before k 0)
      ≡ cond (named label_of k (entries_of attribute (drop at bs))) (f (get_or t k 0)) (get_or t k 0)

pub passing_start : (f : ℕ → ℕ) (bs t : List ℕ) → length t ≡ 65536 → apart label_of (entries_of attribute bs) ≡ true → Passing f bs t t 0
passing_start f bs t size once = record {
  size = size;
  once = once;
  here = λ (k : ℕ) (b : k < 65536) (h : named label_of k (entries_of attribute bs) ≡ true). refl;
  is = λ (k : ℕ) (b : k < 65536). refl;
}

module _ {f : ℕ → ℕ} {bs before t : List ℕ} {at : ℕ} (p : Passing f bs before t at) (n : ℕ) (size : n ≡ entry_len attribute (drop at bs)) where
  pub passing_end : n ≡ 0 → Passed f bs before t
  unfolding named
  passing_end h = record { size = p.size; is = λ (k : ℕ) (b : k < 65536). sym (p.is k b ∙ rw (walk_end attribute bs at n size h)) }

  module _ (some : n ≡ 0 → ⊥) (label : ℕ) (told : label ≡ label_of (take n (drop at bs))) (small : label < 65536) where
    rest : List (List ℕ)
    rest = entries_of attribute (drop (at + n) bs)

    name_here : (k : ℕ) → named label_of k (entries_of attribute (drop at bs)) ≡ (eqb label k || named label_of k rest)
    unfolding named rest
    name_here k = rw (walk_more attribute bs at n size some, ← told)

    once_here : (named label_of label rest ≡ false) × (apart label_of rest ≡ true)
    unfolding apart rest
    once_here =
        let all : (not (named label_of label rest) && apart label_of rest) ≡ true =
        rw told (rw (walk_more attribute bs at n size some) at p.once) in
        let q = both (not (named label_of label rest)) (apart label_of rest) all in
        (not-true (named label_of label rest) q.0, q.1)

    -- the number is still the one from before
    pub passing_here : get_or t label 0 ≡ get_or before label 0
    passing_here = p.here label small (rw (name_here label, eq-eqb label label refl))

    pub passing_on : (q : ℕ) → q ≡ f (get_or t label 0) → Passing f bs before (set t label q) (at + n)
    unfolding rest
    passing_on q e =
        let store : (k : ℕ) → get_or (set t label q) k 0 ≡ cond (eqb label k) q (get_or t k 0) = λ (k : ℕ). stored t label q k (omega (arith, p.size)) in
        record {
          size = length-set t label q ∙ p.size;
          once = once_here.1;
          here = λ (k : ℕ) (b : k < 65536) (h : named label_of k rest ≡ true).
              ⊎_elim
              (λ (y : eqb label k ≡ true).
              absurd (let same : label ≡ k = eqb-true label k y in let z : ◌≡◌ {A = Bool} true false = sym h ∙ rw (← same) once_here.0 in
              let w : ◌≡◌ {A = ℕ} 0 1 = cc in omega arith))
              (λ (y : eqb label k ≡ false). store k ∙ rw y (p.here k b (rw (name_here k, y) h)))
              (true_or_false (eqb label k));
          is = λ (k : ℕ) (b : k < 65536).
              ⊎_elim
              (λ (y : eqb label k ≡ true).
              let same : label ≡ k = eqb-true label k y in
              let out : named label_of k rest ≡ false = rw (← same) once_here.0 in
              p.is k b ∙ rw (name_here k, y, store k, y, out, e, same))
              (λ (y : eqb label k ≡ false). p.is k b ∙ rw (name_here k, y, store k, y))
              (true_or_false (eqb label k));
        }

-- the walk that clears
pub passing_cleared : {bs before t : List ℕ} {at : ℕ} → Passing cleared bs before t at → (n : ℕ) → n ≡ entry_len attribute (drop at bs) → (n ≡ 0 → ⊥)
    → (label : ℕ) → label ≡ label_of (take n (drop at bs)) → label < 65536 → Passing cleared bs before (set t label 0) (at + n)
unfolding cleared
passing_cleared p n size some label told small = passing_on p n size some label told small 0 refl
