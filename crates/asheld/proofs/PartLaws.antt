-- Parts of a list, one behind the other, and a part of what was written that is written over. Assumes nothing.
use Prim.Native.Nat.{ℕ, suc, ◌+◌, ◌≤◌, ◌<◌}
use mathlib.Core.List.{List, [], ◌∷◌, ◌++◌}
use mathlib.Core.Path.{◌≡◌, refl, sym, ap, ◌∙◌}
use native.Mathlib.Numerals.{add-one}
use native.Mathlib.Omega.{arith}
use lib.ListN.{length, take, drop, set, length-append, length-drop, take-append-drop}
use lib.Seq.{sets, set-set, length-take-le, take-append-add, drop-cons, drop-drop}
use Rattle.octets.specs.Number.{byte_at}
use Rattle.octets.specs.Area.{Wrote}
use Rattle.octets.proofs.AreaLaws.{sets_append, set_sets}

pub join : (l : List ℕ) (p q a b : ℕ) → p + a ≡ q → q ≤ length l → take a (drop p l) ++ take b (drop q l) ≡ take (a + b) (drop p l)
join l p q a b e h =
    let front = take a (drop p l) in
    let long : length front ≡ a = length-take-le a (drop p l) (rw length-drop (omega arith)) in
    let whole : drop p l ≡ front ++ drop q l =
    sym (take-append-drop a (drop p l)) ∙ ap (λ (r : List ℕ). front ++ r) (drop-drop a p l ∙ ap (λ (k : ℕ). drop k l) e) in
    sym (ap (λ (r : List ℕ). take (a + b) r) whole ∙ ap (λ (k : ℕ). take (k + b) (front ++ drop q l)) (sym long) ∙ take-append-add front (drop q l) b)

pub part_long : (l : List ℕ) (p a : ℕ) → p + a ≤ length l → length (take a (drop p l)) ≡ a
part_long l p a h = length-take-le a (drop p l) (rw length-drop (omega arith))

-- one byte and those behind it
pub part_more : (l : List ℕ) (p q a x : ℕ) → p + 1 ≡ q → byte_at l p ≡ x → p < length l → x ∷ take a (drop q l) ≡ take (suc a) (drop p l)
part_more l p q a x next e h = rw (← next, add-one p, drop-cons l p 0 h, e)

-- ---- written over
sets_same : (xs ys l : List ℕ) (i : ℕ) → length xs ≡ length ys → sets (sets l i xs) i ys ≡ sets l i ys
sets_same [] [] l i e = refl
sets_same [] (y ∷ ys) l i e = absurd (omega arith)
sets_same (x ∷ xs) [] l i e = absurd (omega arith)
sets_same (x ∷ xs) (y ∷ ys) l i e =
    ap (λ (k : List ℕ). sets k (suc i) ys) (set_sets xs (set l i x) i (suc i) y (omega arith) ∙ ap (λ (k : List ℕ). sets k (suc i) xs) (set-set l i x y))
    ∙ sets_same xs ys (set l i y) (suc i) (omega arith)

-- those in front don't meet those behind
sets_swap : (xs ys l : List ℕ) (i j : ℕ) → i + length xs ≤ j → sets (sets l j ys) i xs ≡ sets (sets l i xs) j ys
sets_swap [] ys l i j h = refl
sets_swap (x ∷ xs) ys l i j h =
    ap (λ (k : List ℕ). sets k (suc i) xs) (set_sets ys l i j x (omega arith)) ∙ sets_swap xs ys (set l i x) (suc i) j (omega arith)

pub wrote_over : {a b d : List ℕ} {at r q : ℕ} (xs ys vs zs : List ℕ) → Wrote a at (xs ++ (ys ++ zs)) b r → Wrote b (at + length xs) vs d q
    → length ys ≡ length vs → Wrote a at (xs ++ (vs ++ zs)) d r
wrote_over {a} {b} {d} {at} {r} {q} xs ys vs zs w x e =
    let i = at + length xs in
    let split : (us : List ℕ) → sets a at (xs ++ (us ++ zs)) ≡ sets (sets (sets a at xs) i us) (i + length us) zs =
    λ (us : List ℕ). sym (sets_append xs (us ++ zs) a at) ∙ sym (sets_append us zs (sets a at xs) i) in
    let long : length (xs ++ (ys ++ zs)) ≡ length (xs ++ (vs ++ zs)) =
    rw (length-append, length-append ys zs, length-append xs (vs ++ zs), length-append vs zs) (omega arith) in
    record {
      is = x.is ∙ ap (λ (l : List ℕ). sets l i vs) (w.is ∙ split ys) ∙ sets_swap vs zs (sets (sets a at xs) i ys) i (i + length ys) (omega arith)
          ∙ ap (λ (l : List ℕ). sets l (i + length ys) zs) (sets_same ys vs (sets a at xs) i e)
          ∙ ap (λ (n : ℕ). sets (sets (sets a at xs) i vs) (i + n) zs) e ∙ sym (split vs);
      end = let z = w.end in omega (arith, long);
      room = w.room;
    }
