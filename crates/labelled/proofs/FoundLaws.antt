-- The number of a label tells what the update brings of it: nothing, or the entry at its place (`found`). Assumes nothing.
use Prim.Native.Nat.{ℕ, ◌+◌, ◌-◌, ◌≤◌, ◌<◌}
use mathlib.Core.Bool.{Bool, true, false, not, cond}
use mathlib.Core.List.{List, [], ◌∷◌, flatten, append-nil}
use mathlib.Core.Logic.{⊎_elim}
use mathlib.Core.Path.{◌≡◌, refl, sym, ap, ◌∙◌}
use native.Mathlib.Omega.{arith}
use lib.ListN.{length, take, drop, length-drop}
use lib.Seq.{length-take-le, drop-drop}
use lib.Dec.{eqb}
use borrow.Author.Tests.{eq-eqb, eqb-true, not-true}
use Rattle.octets.specs.Area.{Wrote}
use Rattle.octets.proofs.AreaLaws.{wrote_as, wrote_none}
use Rattle.octets.proofs.Cases.{true_or_false}
use Rattle.octets.proofs.Tests.{both}
use Rattle.entries.specs.Entries.{entry_len, entries_of}
use Rattle.entries.proofs.EntryLaws.{entry_within}
use Rattle.entries.proofs.EntriesLaws.{entries_none, entries_more, by_entries}
use Rattle.attributes.specs.Attributes.{attribute, label_of, is_removal}
use Rattle.attributes.proofs.PartLaws.{attribute_long}
use Rattle.edits.specs.AttributeEdit.{named}
use Rattle.edits.specs.OnePass.{apart, instead}
use Rattle.edits.proofs.OnePassLaws.{instead_none}
use Rattle.labelled.specs.Table.{place_from, place_in, entry_at, unremoved, Facing}

-- ---- a label that isn't named has no number, and one without number isn't named
pub place_unnamed : (k old at : ℕ) (es : List (List ℕ)) → named label_of k es ≡ false → place_from k old at es ≡ old
unfolding place_from named
place_unnamed k old at [] out = refl
place_unnamed k old at (e ∷ es) out =
    ⊎_elim (λ (t : eqb (label_of e) k ≡ true). absurd (let z : ◌≡◌ {A = Bool} true false = rw t at out in let y : ◌≡◌ {A = ℕ} 0 1 = cc in omega arith))
    (λ (f : eqb (label_of e) k ≡ false). rw f (place_unnamed k old (at + length e) es (rw f at out)))
    (true_or_false (eqb (label_of e) k))

place_some : (k old at : ℕ) (es : List (List ℕ)) → 0 < old → 0 < place_from k old at es
unfolding place_from
place_some k old at [] h = h
place_some k old at (e ∷ es) h =
    ⊎_elim (λ (t : eqb (label_of e) k ≡ true). rw t (place_some k (at + 1) (at + length e) es (omega arith)))
    (λ (f : eqb (label_of e) k ≡ false). rw f (place_some k old (at + length e) es h))
    (true_or_false (eqb (label_of e) k))

pub place_none : (k at : ℕ) (es : List (List ℕ)) → place_from k 0 at es ≡ 0 → named label_of k es ≡ false
unfolding place_from named
place_none k at [] z = refl
place_none k at (e ∷ es) z =
    ⊎_elim
    (λ (t : eqb (label_of e) k ≡ true).
    absurd (let y : place_from k (at + 1) (at + length e) es ≡ 0 = rw t at z in omega (arith, place_some k (at + 1) (at + length e) es (omega arith))))
    (λ (f : eqb (label_of e) k ≡ false). rw f (place_none k (at + length e) es (rw f at z)))
    (true_or_false (eqb (label_of e) k))

-- ---- the entry at a number
pub record Found (k at : ℕ) (bs : List ℕ) (p : ℕ) : Type 0 where
  pub low : at < p
  pub within : p - 1 - at < length bs
  pub some : 0 < entry_len attribute (drop (p - 1 - at) bs)
  pub is : (e : List ℕ) → label_of e ≡ k → instead label_of is_removal e (entries_of attribute bs) ≡ cond (is_removal (entry_at (p - 1 - at) bs)) [] (entry_at (p - 1 - at) bs ∷ [])

Finds : ℕ → List ℕ → Type 0
Finds k bs = (at p : ℕ) → apart label_of (entries_of attribute bs) ≡ true → p ≡ place_from k 0 at (entries_of attribute bs) → (p ≡ 0 → ⊥) → Found k at bs p

finds_none : (k : ℕ) (bs : List ℕ) → entry_len attribute bs ≡ 0 → Finds k bs
unfolding Finds place_from
finds_none k bs z at p once is some = absurd (some (is ∙ rw (entries_none attribute bs z)))

module _ (k : ℕ) (bs : List ℕ) (z : 0 < entry_len attribute bs) (at p : ℕ) where
  entry : List ℕ
  entry = take (entry_len attribute bs) bs

  rest : List (List ℕ)
  rest = entries_of attribute (drop (entry_len attribute bs) bs)

  parts : entries_of attribute bs ≡ entry ∷ rest
  unfolding entry rest
  parts = entries_more attribute bs z

  long : length entry ≡ entry_len attribute bs
  unfolding entry
  long = length-take-le (entry_len attribute bs) bs (entry_within attribute bs)

  module _ (once : apart label_of (entries_of attribute bs) ≡ true) (is : p ≡ place_from k 0 at (entries_of attribute bs)) where
    once_both : (named label_of (label_of entry) rest ≡ false) × (apart label_of rest ≡ true)
    unfolding apart
    once_both =
        let q = both (not (named label_of (label_of entry) rest)) (apart label_of rest) (rw parts at once) in
        (not-true (named label_of (label_of entry) rest) q.0, q.1)

    place_is : p ≡ place_from k (cond (eqb (label_of entry) k) (at + 1) 0) (at + length entry) rest
    unfolding place_from
    place_is = is ∙ rw parts

    finds_here : eqb (label_of entry) k ≡ true → Found k at bs p
    unfolding instead entry_at entry
    finds_here t =
        let same : label_of entry ≡ k = eqb-true (label_of entry) k t in
        let out : named label_of k rest ≡ false = sym (ap (λ (j : ℕ). named label_of j rest) same) ∙ once_both.0 in
        let p_is : p ≡ at + 1 = place_is ∙ rw t (place_unnamed k (at + 1) (at + length entry) rest out) in
        let first : p - 1 - at ≡ 0 = omega (arith, p_is) in
        record {
          low = omega (arith, p_is);
          within = omega (arith, first, entry_within attribute bs);
          some = rw first z;
          is = λ (e : List ℕ) (m : label_of e ≡ k). rw (first, parts, eq-eqb (label_of entry) (label_of e) (same ∙ sym m));
        }

    finds_later : eqb (label_of entry) k ≡ false → (p ≡ 0 → ⊥) → Finds k (drop (entry_len attribute bs) bs) → Found k at bs p
    unfolding instead entry_at Finds rest
    finds_later f some later =
        let n = entry_len attribute bs in
        let found = later (at + n) p once_both.1 (place_is ∙ rw (f, long)) some in
        let j = p - 1 - (at + n) in
        let shift : p - 1 - at ≡ n + j = omega (arith, found.low) in
        record {
          low = omega (arith, found.low);
          within = omega (arith, shift, found.within, length-drop n bs, entry_within attribute bs);
          some = rw (shift, ← drop-drop j n bs) found.some;
          is = λ (e : List ℕ) (m : label_of e ≡ k). rw (shift, ← drop-drop j n bs, parts, m, f) (found.is e m);
        }

finds_more : (k : ℕ) (bs : List ℕ) → 0 < entry_len attribute bs → Finds k (drop (entry_len attribute bs) bs) → Finds k bs
unfolding Finds
finds_more k bs z later at p once is some =
    ⊎_elim
    (λ (t : eqb (label_of (entry k bs z at p)) k ≡ true). finds_here k bs z at p once is t)
    (λ (f : eqb (label_of (entry k bs z at p)) k ≡ false). finds_later k bs z at p once is f some later)
    (true_or_false (eqb (label_of (entry k bs z at p)) k))

pub found : (k : ℕ) (bs : List ℕ) (p : ℕ) → apart label_of (entries_of attribute bs) ≡ true → p ≡ place_in k bs → (p ≡ 0 → ⊥) → Found k 0 bs p
unfolding Finds place_in
found k bs p once is some = by_entries (λ (l : List ℕ). Finds k l) attribute (finds_none k) (finds_more k) bs 0 p once is some

-- ---- what stands in the place of the held entry of n bytes at `at`
module _ {held : List ℕ} {at n : ℕ} {brought : List ℕ} {p : ℕ} (f : Facing held at n brought p) where
  kept_bytes : p ≡ 0 → flatten (instead label_of is_removal (take n (drop at held)) (entries_of attribute brought)) ≡ take (at + n - at) (drop at held)
  unfolding place_in flatten
  kept_bytes z =
      let e = take n (drop at held) in
      let size : at + n - at ≡ n = omega arith in
      let out = place_none (label_of e) 0 (entries_of attribute brought) (sym f.is ∙ z) in
      rw (instead_none label_of is_removal e (entries_of attribute brought) out, size) (append-nil e)

  pub kept_room : (next room : ℕ) → p ≡ 0 → next + length (flatten (instead label_of is_removal (take n (drop at held)) (entries_of attribute brought))) ≤ room
      → next + (at + n - at) ≤ room
  kept_room next room z h =
      let size : length (take (at + n - at) (drop at held)) ≡ at + n - at = length-take-le (at + n - at) (drop at held) (rw length-drop (omega (arith, f.within))) in
      omega (arith, h, ap length (kept_bytes z), size)

  pub kept_put : {a b : List ℕ} {next r : ℕ} → p ≡ 0 → Wrote a next (take (at + n - at) (drop at held)) b r
      → Wrote a next (flatten (instead label_of is_removal (take n (drop at held)) (entries_of attribute brought))) b r
  kept_put z w = wrote_as _ (sym (kept_bytes z)) w

  module _ (some : p ≡ 0 → ⊥) where
    there : Found (label_of (take n (drop at held))) 0 brought p
    there = found (label_of (take n (drop at held))) brought p f.once f.is some

    first : p - 1 - 0 ≡ p - 1
    first = omega arith

    pub found_within : p - 1 ≤ length brought
    found_within = omega (arith, there.within)

    pub found_some : 0 < entry_len attribute (drop (p - 1) brought)
    found_some = rw (← first) there.some

    found_bytes : flatten (instead label_of is_removal (take n (drop at held)) (entries_of attribute brought)) ≡ unremoved (entry_at (p - 1) brought)
    unfolding unremoved flatten
    found_bytes =
        ⊎_elim
        (λ (t : is_removal (entry_at (p - 1) brought) ≡ true). rw (there.is (take n (drop at held)) refl, first, t))
        (λ (t : is_removal (entry_at (p - 1) brought) ≡ false). rw (there.is (take n (drop at held)) refl, first, t) (append-nil (entry_at (p - 1) brought)))
        (true_or_false (is_removal (entry_at (p - 1) brought)))

    pub found_room : (next room : ℕ) → next + length (flatten (instead label_of is_removal (take n (drop at held)) (entries_of attribute brought))) ≤ room
        → next + length (unremoved (entry_at (p - 1) brought)) ≤ room
    found_room next room h = rw (← found_bytes) h

    pub found_put : {a b : List ℕ} {next r : ℕ} → Wrote a next (unremoved (entry_at (p - 1) brought)) b r
        → Wrote a next (flatten (instead label_of is_removal (take n (drop at held)) (entries_of attribute brought))) b r
    found_put w = wrote_as _ (sym found_bytes) w

-- ---- an entry that is put unless it is a removal
module _ (bs : List ℕ) (from n : ℕ) (size : n ≡ entry_len attribute (drop from bs)) (r : Bool) (told : r ≡ is_removal (take n (drop from bs))) where
  pub removed_put : (a : List ℕ) (next : ℕ) → r ≡ true → next + length (unremoved (entry_at from bs)) ≤ length a → Wrote a next (unremoved (entry_at from bs)) a next
  unfolding unremoved entry_at
  removed_put a next t h = rw (← size, ← told, t) (wrote_none a next (omega (arith, h)))

  pub unremoved_is : r ≡ false → unremoved (entry_at from bs) ≡ take (from + n - from) (drop from bs)
  unfolding unremoved entry_at
  unremoved_is t = let long : from + n - from ≡ n = omega arith in rw (← size, ← told, t, long)

  pub unremoved_room : (next room : ℕ) → r ≡ false → from ≤ length bs → next + length (unremoved (entry_at from bs)) ≤ room → next + (from + n - from) ≤ room
  unremoved_room next room t fit h =
      let within : from + n ≤ length bs = omega (arith, size, entry_within attribute (drop from bs), length-drop from bs) in
      let long : length (take (from + n - from) (drop from bs)) ≡ from + n - from = length-take-le (from + n - from) (drop from bs) (rw length-drop (omega arith)) in
      omega (arith, h, ap length (unremoved_is t), long)

  pub unremoved_put : {a b : List ℕ} {next q : ℕ} → r ≡ false → Wrote a next (take (from + n - from) (drop from bs)) b q → Wrote a next (unremoved (entry_at from bs)) b q
  unremoved_put t w = wrote_as _ (sym (unremoved_is t)) w

pub entry_long : (bs : List ℕ) (from n : ℕ) → 0 < entry_len attribute (drop from bs) → n ≡ entry_len attribute (drop from bs) → 3 ≤ n
entry_long bs from n z size = attribute_long (drop from bs) n size (λ (e : n ≡ 0). omega arith)
