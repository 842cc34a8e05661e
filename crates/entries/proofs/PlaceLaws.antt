-- Laws of the places at which entries start: the bytes before a place are the entries before it, and from a place on stand the
-- entries from it on. For shapes without text entry k starts at k times the fixed bytes, and a division counts them. Assumes nothing.
use Prim.Native.Nat.{ℕ, zero, suc, ◌+◌, ◌-◌, ◌*◌, ◌/◌, ◌≤◌, ◌<◌, min}
use mathlib.Core.Bool.{true}
use mathlib.Core.List.{List, [], ◌∷◌, ◌++◌, flatten, append_assoc, append-nil}
use mathlib.Core.Path.{◌≡◌, refl, sym, ap, ◌∙◌}
use mathlib.Core.Logic.{⊎_elim}
use native.Mathlib.Nat.{eq-zero-or-pos, suc-mul, zero-mul, add_comm, div-eq_of_lt, div-eq-sub-div}
use native.Mathlib.Numerals.{add-one}
use native.Mathlib.Omega.{arith}
use lib.ListN.{length, take, drop, get_or, length-append, length-drop, take-append-drop}
use lib.Seq.{take-suc, length-take-le, drop-drop, drop-cons, take-append-le, take-append-add, take-append_seam, take_all, take-nil}
use Rattle.octets.proofs.Cases.{le_or_lt}
use Rattle.entries.specs.declared.Shape.{Shape}
use Rattle.entries.specs.declared.Extent.{Extent}
use Rattle.entries.specs.Entries.{entry_len, entries_of, extent_of, whole_good}
use Rattle.entries.specs.Premises.{Sound, Whole, place}
use Rattle.entries.proofs.EntryLaws.{entry_within, entry_bare, fixed_long}
use Rattle.entries.proofs.EntriesLaws.{flatten_append, entries_none, entries_more, by_entries, entries_rest, entries_append, whole_good_lem}

-- ---- the three equations; nothing after them opens place
pub place_first : (sh : Shape) (bs : List ℕ) → place sh 0 bs ≡ 0
unfolding place flatten
place_first sh bs = refl

pub place_none : (sh : Shape) (k : ℕ) (bs : List ℕ) → entry_len sh bs ≡ 0 → place sh k bs ≡ 0
unfolding place flatten
place_none sh k bs e = rw (entries_none sh bs e, take-nil k)

pub place_more : (sh : Shape) (k : ℕ) (bs : List ℕ) → 0 < entry_len sh bs → place sh (suc k) bs ≡ entry_len sh bs + place sh k (drop (entry_len sh bs) bs)
unfolding place flatten
place_more sh k bs z =
    let n = entry_len sh bs in
    rw (entries_more sh bs z, length-append (take n bs), length-take-le n bs (entry_within sh bs))

pub count_more : (sh : Shape) (bs : List ℕ) → 0 < entry_len sh bs → length (entries_of sh bs) ≡ suc (length (entries_of sh (drop (entry_len sh bs) bs)))
count_more sh bs z = rw (entries_more sh bs z)

-- ---- the bytes before a place, and the entries from it on
split_at_place : (sh : Shape) (k : ℕ) (bs : List ℕ) → (rest : List ℕ) × (flatten (take k (entries_of sh bs)) ++ rest ≡ bs)
split_at_place sh k bs =
    let es = entries_of sh bs in
    let all = flatten es in (
      flatten (drop k es) ++ drop (length all) bs,
      sym (append_assoc (flatten (take k es)) (flatten (drop k es)) (drop (length all) bs))
          ∙ ap (λ (l : List ℕ). l ++ drop (length all) bs) (sym (flatten_append (take k es) (drop k es)) ∙ ap flatten (take-append-drop k es))
          ∙ entries_rest sh bs,
    )

pub place_within : (sh : Shape) (k : ℕ) (bs : List ℕ) → place sh k bs ≤ length bs
unfolding place
place_within sh k bs = omega (arith, simp length-append at (ap length (split_at_place sh k bs).1))

pub place_front : (sh : Shape) (k : ℕ) (bs : List ℕ) → take (place sh k bs) bs ≡ flatten (take k (entries_of sh bs))
unfolding place
place_front sh k bs =
    let front = flatten (take k (entries_of sh bs)) in
    let split = split_at_place sh k bs in
    ap (λ (l : List ℕ). take (length front) l) (sym split.1) ∙ take-append_seam front split.0

pub place_back : (sh : Shape) (k : ℕ) (bs : List ℕ) → entries_of sh (drop (place sh k bs) bs) ≡ drop k (entries_of sh bs)
place_back sh zero bs = rw (place_first sh bs)
place_back sh (suc k) bs =
    ⊎_elim
    (λ (e : entry_len sh bs ≡ 0). rw (place_none sh (suc k) bs e, entries_none sh bs e))
    (λ (z : 0 < entry_len sh bs).
    let n = entry_len sh bs in
    rw (place_more sh k bs z, ← drop-drop (place sh k (drop n bs)) n bs, place_back sh k (drop n bs), entries_more sh bs z))
    (eq-zero-or-pos (entry_len sh bs))

-- past the last entry
pub place_end : (sh : Shape) (k : ℕ) (bs : List ℕ) → length (entries_of sh bs) ≤ k → place sh k bs ≡ length (flatten (entries_of sh bs))
unfolding place
place_end sh k bs h = rw (take_all k (entries_of sh bs) h)

-- ---- entry k is what stands at its place, and the next one starts behind it
heads : {x y : List ℕ} {xs ys : List (List ℕ)} → x ∷ xs ≡ y ∷ ys → x ≡ y
heads e = cc

pub place_some : (sh : Shape) (k : ℕ) (bs : List ℕ) → k < length (entries_of sh bs) → 0 < entry_len sh (drop (place sh k bs) bs)
place_some sh k bs h =
    let here = drop (place sh k bs) bs in
    let left : length (entries_of sh here) ≡ length (entries_of sh bs) - k = ap length (place_back sh k bs) ∙ length-drop k (entries_of sh bs) in
    ⊎_elim
    (λ (e : entry_len sh here ≡ 0). absurd (omega (arith, left, ap length (entries_none sh here e))))
    (λ (z : 0 < entry_len sh here). z)
    (eq-zero-or-pos (entry_len sh here))

pub entry_at : (sh : Shape) (k : ℕ) (bs : List ℕ) → k < length (entries_of sh bs)
    → get_or (entries_of sh bs) k [] ≡ take (entry_len sh (drop (place sh k bs) bs)) (drop (place sh k bs) bs)
entry_at sh k bs h =
    let here = drop (place sh k bs) bs in
    heads (sym (drop-cons (entries_of sh bs) k [] h) ∙ sym (place_back sh k bs) ∙ entries_more sh here (place_some sh k bs h))

pub place_next : (sh : Shape) (k : ℕ) (bs : List ℕ) → k < length (entries_of sh bs) → place sh (k + 1) bs ≡ place sh k bs + entry_len sh (drop (place sh k bs) bs)
unfolding place flatten
place_next sh k bs h =
    let es = entries_of sh bs in
    let e = get_or es k [] in
    let here = drop (place sh k bs) bs in
    let long : length e ≡ entry_len sh here = ap length (entry_at sh k bs h) ∙ length-take-le (entry_len sh here) here (entry_within sh here) in
    let sum : length (flatten (take (k + 1) es)) ≡ length (flatten (take k es)) + length e =
    rw (add-one k, take-suc es k [] h, flatten_append (take k es) (e ∷ []), length-append (flatten (take k es)), append-nil e) in
    sum ∙ ap (λ (j : ℕ). length (flatten (take k es)) + j) long

-- ---- a list in several parts
pub place_left : {sh : Shape} {a : List ℕ} (b : List ℕ) (k : ℕ) → Whole sh a → k ≤ length (entries_of sh a) → place sh k (a ++ b) ≡ place sh k a
unfolding place
place_left {sh} {a} b k w h = rw (entries_append b w, take-append-le k (entries_of sh a) (entries_of sh b) h)

pub place_right : {sh : Shape} {a : List ℕ} (b : List ℕ) (k : ℕ) → Whole sh a → place sh (length (entries_of sh a) + k) (a ++ b) ≡ length a + place sh k b
unfolding place
place_right {sh} {a} b k w =
    rw (entries_append b w, take-append-add (entries_of sh a) (entries_of sh b) k, flatten_append (entries_of sh a), w.is) (length-append a (flatten (take k (entries_of sh b))))

-- ---- shapes without text
pub fixed_place : (sh : Shape) (k : ℕ) (bs : List ℕ) → sh.unit ≡ 0 → k ≤ length (entries_of sh bs) → place sh k bs ≡ k * sh.fixed
fixed_place sh zero bs u h = place_first sh bs ∙ sym (zero-mul sh.fixed)
fixed_place sh (suc k) bs u h =
    let n = entry_len sh bs in
    let z : 0 < n = ⊎_elim (λ (e : n ≡ 0). absurd (omega (arith, ap length (entries_none sh bs e)))) (λ (z : 0 < n). z) (eq-zero-or-pos n) in
    let rest = fixed_place sh k (drop n bs) u (omega (arith, count_more sh bs z)) in
    place_more sh k bs z ∙ rw (rest, fixed_long sh bs u z, suc-mul k sh.fixed) (add_comm sh.fixed (k * sh.fixed))

pub fixed_entry : (sh : Shape) (k : ℕ) (bs : List ℕ) → sh.unit ≡ 0 → k < length (entries_of sh bs)
    → get_or (entries_of sh bs) k [] ≡ take sh.fixed (drop (k * sh.fixed) bs)
fixed_entry sh k bs u h =
    let place_is = fixed_place sh k bs u (omega arith) in
    entry_at sh k bs h ∙ rw (fixed_long sh (drop (place sh k bs) bs) u (place_some sh k bs h), place_is)

pub fixed_end : (sh : Shape) (bs : List ℕ) → sh.unit ≡ 0 → length (flatten (entries_of sh bs)) ≡ length (entries_of sh bs) * sh.fixed
fixed_end sh bs u =
    let count = length (entries_of sh bs) in
    sym (place_end sh count bs (omega arith)) ∙ fixed_place sh count bs u (omega arith)

pub fixed_count : {sh : Shape} {bs : List ℕ} → sh.unit ≡ 0 → Whole sh bs → length bs ≡ length (entries_of sh bs) * sh.fixed
fixed_count {sh} {bs} u w = ap length (sym w.is) ∙ fixed_end sh bs u

pub fixed_whole : (sh : Shape) (bs : List ℕ) → sh.unit ≡ 0 → whole_good sh bs ≡ true
    → (length bs ≡ length (entries_of sh bs) * sh.fixed)
    × ((k : ℕ) → k < length (entries_of sh bs) → get_or (entries_of sh bs) k [] ≡ take sh.fixed (drop (k * sh.fixed) bs))
fixed_whole sh bs u good = (fixed_count u (whole_good_lem sh bs good).0, λ k h. fixed_entry sh k bs u h)

-- ---- the same by the number of bytes: a division counts such entries
bare_short : (sh : Shape) (bs : List ℕ) → sh.unit ≡ 0 → 1 ≤ sh.fixed → entry_len sh bs ≡ 0 → length bs < sh.fixed
bare_short sh bs bare some none =
    ⊎_elim
    (λ (h : sh.fixed ≤ length bs). absurd (omega (arith, entry_bare sh bs h bare)))
    (λ (h : length bs < sh.fixed). h)
    (le_or_lt sh.fixed (length bs))

pub bare_count : (sh : Shape) → sh.unit ≡ 0 → 1 ≤ sh.fixed → (bs : List ℕ) → length (entries_of sh bs) ≡ length bs / sh.fixed
bare_count sh bare some =
    by_entries (λ bs. length (entries_of sh bs) ≡ length bs / sh.fixed) sh
    (λ bs none. rw (entries_none sh bs none) (sym (div-eq_of_lt (bare_short sh bs bare some none))))
    (λ bs more rest.
    let one : entry_len sh bs ≡ sh.fixed = fixed_long sh bs bare more in
    let within : sh.fixed ≤ length bs = omega (arith, one, entry_within sh bs) in
    let less : length (drop (entry_len sh bs) bs) ≡ length bs - sh.fixed = length-drop (entry_len sh bs) bs ∙ ap (λ (n : ℕ). length bs - n) one in
    count_more sh bs more ∙ ap suc (rest ∙ ap (λ (n : ℕ). n / sh.fixed) less) ∙ sym (add-one ((length bs - sh.fixed) / sh.fixed))
    ∙ sym (div-eq-sub-div some within))

pub even_extent : (sh : Shape) (bs : List ℕ) → Sound sh → sh.unit ≡ 0
    → record { count = length bs / sh.fixed; end = length bs / sh.fixed * sh.fixed } ≡ extent_of sh bs
even_extent sh bs sound bare = rw (fixed_end sh bs bare, bare_count sh bare sound.some bs)

-- ---- the same from an extent in hand
module _ (sh : Shape) (bs : List ℕ) (k m : ℕ) (all : Extent) (is : all ≡ extent_of sh bs) (least : m ≡ min k all.count) (bare : sh.unit ≡ 0) where
  pub even_place : m * sh.fixed ≡ place sh k bs
  even_place =
      let count = ap (λ (x : Extent). x.count) is in
      ⊎_elim
      (λ (h : k ≤ all.count). let e : m ≡ k = omega arith in rw e (sym (fixed_place sh k bs bare (omega arith))))
      (λ (h : all.count < k). let e : m ≡ length (entries_of sh bs) = omega arith in rw e (sym (fixed_end sh bs bare) ∙ sym (place_end sh k bs (omega arith))))
      (le_or_lt k all.count)

  pub even_within : m * sh.fixed ≤ length bs
  even_within = rw even_place (place_within sh k bs)
