-- Laws of the entries of a byte string: their equations without fuel, that joined entries cut into themselves again
-- (`cut_joined`), and that a list in several parts has the parts' entries (`entries_append`). Assumes nothing.
use Prim.Native.Nat.{ℕ, zero, suc, ◌+◌, ◌≤◌, ◌<◌}
use mathlib.Core.Bool.{true, false}
use mathlib.Core.List.{List, [], ◌∷◌, ◌++◌, flatten, append_assoc, append-nil}
use mathlib.Core.Path.{◌≡◌, refl, sym, ap, ◌∙◌}
use mathlib.Core.Logic.{⊎_elim}
use native.Mathlib.Nat.{eq-zero-or-pos}
use native.Mathlib.Omega.{arith}
use lib.ListN.{length, take, drop, length-append, length-drop, take-append-drop, drop_of_length-le}
use lib.Seq.{length-take-le, drop-drop, take-append_seam, drop-append_seam}
use lib.Dec.{leb, eqb}
use borrow.Author.Tests.{le-leb, lt-leb, leb-true, eq-eqb, ne_eqb, eqb-true}
use Rattle.octets.proofs.Tests.{both}
use Rattle.entries.specs.declared.Shape.{Shape}
use Rattle.entries.specs.declared.Extent.{Extent}
use Rattle.entries.specs.Entries.{entry_len, entries_from, entries_of, Each, each_none, each_more, extent_of, whole_good}
use Rattle.entries.specs.Premises.{Whole}
use Rattle.entries.proofs.EntryLaws.{entry_within, entry_found, entry_taken}

-- ---- joined lists
pub flatten_append : (xs ys : List (List ℕ)) → flatten (xs ++ ys) ≡ flatten xs ++ flatten ys
unfolding flatten
flatten_append [] ys = refl
flatten_append (x ∷ xs) ys = rw (flatten_append xs ys) (sym (append_assoc x (flatten xs) (flatten ys)))

-- ---- the walk, with its fuel
from_none : (f : ℕ) (sh : Shape) (bs : List ℕ) → entry_len sh bs ≡ 0 → entries_from f sh bs ≡ []
unfolding entries_from
from_none zero sh bs e = refl
from_none (suc f) sh bs e = rw (eq-eqb (entry_len sh bs) 0 e)

from_more : (f : ℕ) (sh : Shape) (bs : List ℕ) → 0 < entry_len sh bs
    → entries_from (suc f) sh bs ≡ take (entry_len sh bs) bs ∷ entries_from f sh (drop (entry_len sh bs) bs)
unfolding entries_from
from_more f sh bs h = rw (ne_eqb (entry_len sh bs) 0 (λ (e : entry_len sh bs ≡ 0). omega arith))

-- what an entry leaves is shorter
left_less : (f : ℕ) (sh : Shape) (bs : List ℕ) → 0 < entry_len sh bs → length bs ≤ suc f → length (drop (entry_len sh bs) bs) ≤ f
left_less f sh bs z h = rw length-drop (omega (arith, entry_within sh bs))

-- any two amounts of fuel that suffice agree
entries_fuel : (f g : ℕ) (sh : Shape) (bs : List ℕ) → length bs ≤ f → length bs ≤ g → entries_from f sh bs ≡ entries_from g sh bs
entries_fuel zero g sh bs hf hg =
    let e : entry_len sh bs ≡ 0 = omega (arith, entry_within sh bs) in from_none zero sh bs e ∙ sym (from_none g sh bs e)
entries_fuel (suc f) zero sh bs hf hg =
    let e : entry_len sh bs ≡ 0 = omega (arith, entry_within sh bs) in from_none (suc f) sh bs e ∙ sym (from_none zero sh bs e)
entries_fuel (suc f) (suc g) sh bs hf hg =
    ⊎_elim
    (λ (e : entry_len sh bs ≡ 0). from_none (suc f) sh bs e ∙ sym (from_none (suc g) sh bs e))
    (λ (z : 0 < entry_len sh bs).
    let rest = entries_fuel f g sh (drop (entry_len sh bs) bs) (left_less f sh bs z hf) (left_less g sh bs z hg) in
    from_more f sh bs z ∙ ap (λ (l : List (List ℕ)). take (entry_len sh bs) bs ∷ l) rest ∙ sym (from_more g sh bs z))
    (eq-zero-or-pos (entry_len sh bs))

-- ---- the walk's two equations; nothing after them sees fuel
pub entries_none : (sh : Shape) (bs : List ℕ) → entry_len sh bs ≡ 0 → entries_of sh bs ≡ []
unfolding entries_of
entries_none sh bs e = from_none (length bs) sh bs e

pub entries_more : (sh : Shape) (bs : List ℕ) → 0 < entry_len sh bs
    → entries_of sh bs ≡ take (entry_len sh bs) bs ∷ entries_of sh (drop (entry_len sh bs) bs)
unfolding entries_of
entries_more sh bs z =
    let n = entry_len sh bs in
    let rest = entries_fuel (length bs) (length (drop n bs)) sh (drop n bs) (rw length-drop (omega arith)) (omega arith) in
    entries_fuel (length bs) (suc (length bs)) sh bs (omega arith) (omega arith)
    ∙ from_more (length bs) sh bs z ∙ ap (λ (l : List (List ℕ)). take n bs ∷ l) rest

pub entries_nil : (sh : Shape) → entries_of sh [] ≡ []
entries_nil sh = entries_none sh [] (omega (arith, entry_within sh []))

-- ---- what holds of no bytes that begin with an entry, and of an entry before bytes of which it holds, holds of all bytes
by_entries_from : (P : List ℕ → Type 0) (sh : Shape) → ((bs : List ℕ) → entry_len sh bs ≡ 0 → P bs)
    → ((bs : List ℕ) → 0 < entry_len sh bs → P (drop (entry_len sh bs) bs) → P bs) → (f : ℕ) (bs : List ℕ) → length bs ≤ f → P bs
by_entries_from P sh none more zero bs h = none bs (omega (arith, entry_within sh bs))
by_entries_from P sh none more (suc f) bs h =
    ⊎_elim
    (λ (e : entry_len sh bs ≡ 0). none bs e)
    (λ (z : 0 < entry_len sh bs). more bs z (by_entries_from P sh none more f (drop (entry_len sh bs) bs) (left_less f sh bs z h)))
    (eq-zero-or-pos (entry_len sh bs))

pub by_entries : (P : List ℕ → Type 0) (sh : Shape) → ((bs : List ℕ) → entry_len sh bs ≡ 0 → P bs)
    → ((bs : List ℕ) → 0 < entry_len sh bs → P (drop (entry_len sh bs) bs) → P bs) → (bs : List ℕ) → P bs
by_entries P sh none more bs = by_entries_from P sh none more (length bs) bs (omega arith)

-- ---- what is cut is an entry each time
pub each_entries : (sh : Shape) (bs : List ℕ) → Each sh (entries_of sh bs)
each_entries sh =
    by_entries (λ bs. Each sh (entries_of sh bs)) sh
    (λ bs e. rw (entries_none sh bs e) each_none)
    (λ bs z rest. rw (entries_more sh bs z) (each_more (entry_taken sh bs z) rest))

-- ---- bounds: no more entries than bytes, and they end within them
few_from : (f : ℕ) (sh : Shape) (bs : List ℕ) → length (entries_from f sh bs) ≤ f
unfolding entries_from
few_from zero sh bs = omega arith
few_from (suc f) sh bs =
    ⊎_elim
    (λ (e : entry_len sh bs ≡ 0). rw (from_none (suc f) sh bs e) (omega arith))
    (λ (z : 0 < entry_len sh bs). rw (from_more f sh bs z) (omega (arith, few_from f sh (drop (entry_len sh bs) bs))))
    (eq-zero-or-pos (entry_len sh bs))

pub count_few : (sh : Shape) (bs : List ℕ) → length (entries_of sh bs) ≤ length bs
unfolding entries_of
count_few sh bs = few_from (length bs) sh bs

-- the entries and what they leave are the bytes
pub entries_rest : (sh : Shape) (bs : List ℕ) → flatten (entries_of sh bs) ++ drop (length (flatten (entries_of sh bs))) bs ≡ bs
unfolding flatten
entries_rest sh =
    by_entries (λ bs. flatten (entries_of sh bs) ++ drop (length (flatten (entries_of sh bs))) bs ≡ bs) sh
    (λ bs e. rw (entries_none sh bs e))
    (λ bs z rest.
    let n = entry_len sh bs in
    let tail = flatten (entries_of sh (drop n bs)) in
    let size : length (take n bs ++ tail) ≡ n + length tail = length-append (take n bs) tail ∙ ap (λ (k : ℕ). k + length tail) (length-take-le n bs (entry_within sh bs)) in
    rw (entries_more sh bs z, size, ← drop-drop (length tail) n bs, append_assoc (take n bs) tail, rest) (take-append-drop n bs))

pub end_within : (sh : Shape) (bs : List ℕ) → length (flatten (entries_of sh bs)) ≤ length bs
end_within sh bs = omega (arith, simp length-append at (ap length (entries_rest sh bs)))

-- ---- "filled by its subfields"
pub whole_ended : (sh : Shape) (bs : List ℕ) → length (flatten (entries_of sh bs)) ≡ length bs → Whole sh bs
whole_ended sh bs end = record {
  is = sym (append-nil (flatten (entries_of sh bs)))
      ∙ ap (λ (l : List ℕ). flatten (entries_of sh bs) ++ l) (sym (drop_of_length-le bs {i = length (flatten (entries_of sh bs))} (omega arith)))
      ∙ entries_rest sh bs;
}

pub whole_good_lem : (sh : Shape) (bs : List ℕ) → whole_good sh bs ≡ true → Whole sh bs × (1 ≤ length (entries_of sh bs))
unfolding whole_good
whole_good_lem sh bs h =
    let es = entries_of sh bs in
    let told = both (leb 1 (length es)) (eqb (length (flatten es)) (length bs)) h in
    let end : length (flatten es) ≡ length bs = eqb-true (length (flatten es)) (length bs) told.1 in
    (whole_ended sh bs end, leb-true 1 (length es) told.0)

pub whole_told : {sh : Shape} {bs : List ℕ} → Whole sh bs → 1 ≤ length (entries_of sh bs) → whole_good sh bs ≡ true
unfolding whole_good
whole_told {sh} {bs} w some = rw (le-leb 1 (length (entries_of sh bs)) some, w.is) (eq-eqb (length bs) (length bs) refl)

-- the same from an extent in hand
module _ (sh : Shape) (bs : List ℕ) (all : Extent) (e : all ≡ extent_of sh bs) where
  pub good_none : all.count < 1 → false ≡ whole_good sh bs
  unfolding whole_good
  good_none h =
      let c : all.count ≡ length (entries_of sh bs) = ap (λ (x : Extent). x.count) e in
      rw (lt-leb 1 (length (entries_of sh bs)) (omega arith))

  pub good_end_lem : 1 ≤ all.count → eqb all.end (length bs) ≡ whole_good sh bs
  unfolding whole_good
  good_end_lem h =
      let c : all.count ≡ length (entries_of sh bs) = ap (λ (x : Extent). x.count) e in
      rw (le-leb 1 (length (entries_of sh bs)) (omega arith)) (ap (λ (x : Extent). eqb x.end (length bs)) e)

-- ---- read-back: whole entries joined cut into themselves again
pub cut_before : {sh : Shape} {es : List (List ℕ)} (rest : List ℕ) → Each sh es → entries_of sh (flatten es ++ rest) ≡ es ++ entries_of sh rest
unfolding flatten
cut_before {sh} rest each_none = refl
cut_before {sh} rest (each_more {e} {es} w more) =
    let all = e ++ (flatten es ++ rest) in
    let n : entry_len sh all ≡ length e = entry_found (flatten es ++ rest) w in
    let first : entries_of sh all ≡ take (entry_len sh all) all ∷ entries_of sh (drop (entry_len sh all) all) = entries_more sh all (omega (arith, n, w.some)) in
    ap (λ (l : List ℕ). entries_of sh l) (append_assoc e (flatten es) rest)
    ∙ first ∙ rw (n, take-append_seam e (flatten es ++ rest), drop-append_seam e (flatten es ++ rest), cut_before rest more)

pub cut_joined : {sh : Shape} {es : List (List ℕ)} → Each sh es → entries_of sh (flatten es) ≡ es
cut_joined {sh} {es} each =
    ap (λ (l : List ℕ). entries_of sh l) (sym (append-nil (flatten es))) ∙ cut_before [] each
    ∙ ap (λ (l : List (List ℕ)). es ++ l) (entries_nil sh) ∙ append-nil es

pub joined_whole : {sh : Shape} {es : List (List ℕ)} → Each sh es → Whole sh (flatten es)
joined_whole each = record { is = ap flatten (cut_joined each) }

-- ---- a list in several parts
pub entries_append : {sh : Shape} {a : List ℕ} (b : List ℕ) → Whole sh a → entries_of sh (a ++ b) ≡ entries_of sh a ++ entries_of sh b
entries_append {sh} {a} b w = ap (λ (l : List ℕ). entries_of sh (l ++ b)) (sym w.is) ∙ cut_before b (each_entries sh a)

pub whole_append : {sh : Shape} {a b : List ℕ} → Whole sh a → Whole sh b → Whole sh (a ++ b)
whole_append {sh} {a} {b} v w = record {
  is = rw (entries_append b v, flatten_append (entries_of sh a) (entries_of sh b), v.is, w.is);
}

pub count_append : {sh : Shape} {a : List ℕ} (b : List ℕ) → Whole sh a → length (entries_of sh (a ++ b)) ≡ length (entries_of sh a) + length (entries_of sh b)
count_append {sh} {a} b w = rw (entries_append b w) (length-append (entries_of sh a) (entries_of sh b))
