-- Turns of a walk over a list: at stands where the next entry would start, and n is its length as it was measured. Assumes
-- nothing.
use Prim.Native.Nat.{ℕ, suc, ◌+◌, ◌-◌, ◌≤◌, ◌<◌}
use mathlib.Core.Bool.{Bool, true, false, not, ◌&&◌}
use mathlib.Core.List.{List, [], ◌∷◌, ◌++◌, flatten}
use mathlib.Core.Path.{◌≡◌, sym, ap, ◌∙◌}
use native.Mathlib.Nat.{add-zero}
use native.Mathlib.Omega.{arith}
use lib.ListN.{length, take, drop, length-append, length-drop, drop_of_length-le}
use lib.Seq.{drop_at, length-take-le, drop-drop}
use Rattle.octets.proofs.Tests.{told_no, told_yes}
use Rattle.entries.specs.declared.Shape.{Shape}
use Rattle.entries.specs.Entries.{entry_len, entries_of, Entry, extent_of}
use Rattle.entries.specs.Premises.{Whole, place}
use Rattle.entries.specs.Rules.{all_of, through}
use Rattle.entries.proofs.EntryLaws.{entry_within, entry_least, entry_taken}
use Rattle.entries.proofs.EntriesLaws.{entries_nil, entries_none, entries_more}
use Rattle.entries.proofs.PlaceLaws.{place_first, place_none, place_more}

some_long : (n : ℕ) → (n ≡ 0 → ⊥) → 0 < n
some_long n h = omega arith

-- ---- one turn of any walk
pub walk_past : (sh : Shape) (b : List ℕ) (at : ℕ) → length b ≤ at → entries_of sh (drop at b) ≡ []
walk_past sh b at h = rw (drop_of_length-le b {i = at} h) (entries_nil sh)

module _ (sh : Shape) (b : List ℕ) (at n : ℕ) (size : n ≡ entry_len sh (drop at b)) where
  pub walk_end : n ≡ 0 → entries_of sh (drop at b) ≡ []
  walk_end h = entries_none sh (drop at b) (sym size ∙ h)

  pub walk_more : (n ≡ 0 → ⊥) → entries_of sh (drop at b) ≡ take n (drop at b) ∷ entries_of sh (drop (at + n) b)
  walk_more h =
      entries_more sh (drop at b) (omega (arith, size, some_long n h))
      ∙ rw (← size, drop-drop n at b)

  -- the same with the entry as it is lent, from `at` to at + n
  pub walk_lent : (n ≡ 0 → ⊥) → entries_of sh (drop at b) ≡ take (at + n - at) (drop at b) ∷ entries_of sh (drop (at + n) b)
  walk_lent h = let long : at + n - at ≡ n = omega arith in rw long (walk_more h)

  -- the entry within the bytes
  pub walk_within : at ≤ length b → at + n ≤ length b
  walk_within h = omega (arith, size, entry_within sh (drop at b), length-drop at b)

  -- the entry as it is lent is a whole one, and has its fixed bytes
  pub walk_entry : (n ≡ 0 → ⊥) → Entry sh (take (at + n - at) (drop at b))
  walk_entry h =
      let long : at + n - at ≡ entry_len sh (drop at b) = omega (arith, size) in
      rw long (entry_taken sh (drop at b) (omega (arith, size, some_long n h)))

  pub walk_long : (n ≡ 0 → ⊥) → sh.fixed ≤ length (take (at + n - at) (drop at b))
  walk_long h =
      let e = walk_entry h in
      omega (arith, e.is, entry_least sh (take (at + n - at) (drop at b)) (omega (arith, e.is, e.some)))

-- ---- a walk over whole entries meets an entry wherever bytes are left
pub walk_some : (sh : Shape) (b : List ℕ) (at n : ℕ) → Whole sh (drop at b) → at < length b → n ≡ entry_len sh (drop at b) → 0 < n
unfolding flatten
walk_some sh b at n w h size =
    some_long n
    (λ (e : n ≡ 0).
    let none : length (flatten (entries_of sh (drop at b))) ≡ 0 = ap (λ (es : List (List ℕ)). length (flatten es)) (walk_end sh b at n size e) in
    omega (arith, none, ap length w.is, length-drop at b))

-- and what it leaves is whole again
pub walk_whole : (sh : Shape) (b : List ℕ) (at n : ℕ) → Whole sh (drop at b) → at < length b → n ≡ entry_len sh (drop at b) → Whole sh (drop (at + n) b)
unfolding flatten
walk_whole sh b at n w h size =
    let z : 0 < n = walk_some sh b at n w h size in
    let here = drop at b in
    let rest = flatten (entries_of sh (drop (at + n) b)) in
    let joined : take n here ++ rest ≡ here =
    ap (λ (es : List (List ℕ)). flatten es) (sym (walk_more sh b at n size (λ (e : n ≡ 0). omega arith))) ∙ w.is in
    let long : length (take n here) ≡ n = length-take-le n here (omega (arith, size, entry_within sh here)) in
    record { is = sym (drop_at (take n here) rest n long) ∙ ap (λ (l : List ℕ). drop n l) joined ∙ drop-drop n at b }

-- ---- turns of a rule on each entry: the answer from here is the answer from the start
module _ (sh : Shape) (good : List ℕ → Bool) (b : List ℕ) (at : ℕ) (so : all_of good (entries_of sh b) ≡ all_of good (entries_of sh (drop at b))) where
  pub all_past : length b ≤ at → true ≡ all_of good (entries_of sh b)
  unfolding all_of
  all_past h = sym (so ∙ ap (λ (es : List (List ℕ)). all_of good es) (walk_past sh b at h))

  module _ (n : ℕ) (size : n ≡ entry_len sh (drop at b)) where
    pub all_done : n ≡ 0 → true ≡ all_of good (entries_of sh b)
    unfolding all_of
    all_done h = sym (so ∙ ap (λ (es : List (List ℕ)). all_of good es) (walk_end sh b at n size h))

    module _ (h : n ≡ 0 → ⊥) (r : Bool) (told : r ≡ good (take (at + n - at) (drop at b))) where
      all_here : all_of good (entries_of sh b) ≡ (good (take (at + n - at) (drop at b)) && all_of good (entries_of sh (drop (at + n) b)))
      unfolding all_of
      all_here = so ∙ ap (λ (es : List (List ℕ)). all_of good es) (walk_lent sh b at n size h)

      pub all_no : not r ≡ true → false ≡ all_of good (entries_of sh b)
      all_no t = sym (all_here ∙ ap (λ (x : Bool). x && all_of good (entries_of sh (drop (at + n) b))) (told_no r (good (take (at + n - at) (drop at b))) told t))

      pub all_on : not r ≡ false → all_of good (entries_of sh b) ≡ all_of good (entries_of sh (drop (at + n) b))
      all_on t = all_here ∙ ap (λ (x : Bool). x && all_of good (entries_of sh (drop (at + n) b))) (told_yes r (good (take (at + n - at) (drop at b))) told t)

-- ---- turns of a state taken through the entries
module _ {S : Type 0} (sh : Shape) (step : S → List ℕ → S) (first s : S) (b : List ℕ) (at : ℕ)
    (so : through step first (entries_of sh b) ≡ through step s (entries_of sh (drop at b))) where
  pub through_past : length b ≤ at → s ≡ through step first (entries_of sh b)
  unfolding through
  through_past h = sym (so ∙ ap (λ (es : List (List ℕ)). through step s es) (walk_past sh b at h))

  module _ (n : ℕ) (size : n ≡ entry_len sh (drop at b)) where
    pub through_done : n ≡ 0 → s ≡ through step first (entries_of sh b)
    unfolding through
    through_done h = sym (so ∙ ap (λ (es : List (List ℕ)). through step s es) (walk_end sh b at n size h))

    pub through_on : (n ≡ 0 → ⊥) → (t : S) → t ≡ step s (take (at + n - at) (drop at b))
        → through step first (entries_of sh b) ≡ through step t (entries_of sh (drop (at + n) b))
    unfolding through
    through_on h t told = so ∙ ap (λ (es : List (List ℕ)). through step s es) (walk_lent sh b at n size h) ∙ rw told

-- ---- turns of the walk that counts: `count` entries have been passed, up to `at`
module _ (sh : Shape) (b : List ℕ) (at count n : ℕ) (counts : length (entries_of sh b) ≡ count + length (entries_of sh (drop at b)))
    (ends : length (flatten (entries_of sh b)) ≡ at + length (flatten (entries_of sh (drop at b)))) (size : n ≡ entry_len sh (drop at b)) where
  pub extent_done : n ≡ 0 → record { count = count; end = at } ≡ extent_of sh b
  unfolding flatten
  extent_done h =
      let none = walk_end sh b at n size h in
      let c : length (entries_of sh b) ≡ count = counts ∙ rw none (add-zero count) in
      let e : length (flatten (entries_of sh b)) ≡ at = ends ∙ rw none (add-zero at) in
      rw (c, e)

  pub count_on : (n ≡ 0 → ⊥) → length (entries_of sh b) ≡ count + 1 + length (entries_of sh (drop (at + n) b))
  count_on h = omega (arith, counts, ap length (walk_more sh b at n size h))

  pub end_on : (n ≡ 0 → ⊥) → length (flatten (entries_of sh b)) ≡ at + n + length (flatten (entries_of sh (drop (at + n) b)))
  unfolding flatten
  end_on h =
      let long : length (take n (drop at b)) ≡ n = length-take-le n (drop at b) (omega (arith, size, entry_within sh (drop at b))) in
      let rest = flatten (entries_of sh (drop (at + n) b)) in
      omega (arith, ends, ap (λ (es : List (List ℕ)). length (flatten es)) (walk_more sh b at n size h), length-append (take n (drop at b)) rest, long)

-- ---- turns of the walk to a place: i entries have been passed
module _ (sh : Shape) (b : List ℕ) (at k i : ℕ) (so : place sh k b ≡ at + place sh (k - i) (drop at b)) where
  pub place_there : k ≤ i → at ≡ place sh k b
  place_there h = let none : k - i ≡ 0 = omega arith in sym (so ∙ rw (none, place_first sh (drop at b)) (add-zero at))

  module _ (n : ℕ) (size : n ≡ entry_len sh (drop at b)) where
    pub place_out : n ≡ 0 → at ≡ place sh k b
    place_out h = sym (so ∙ rw (place_none sh (k - i) (drop at b) (sym size ∙ h)) (add-zero at))

    pub place_on : i < k → (n ≡ 0 → ⊥) → place sh k b ≡ at + n + place sh (k - (i + 1)) (drop (at + n) b)
    place_on more h =
        let one : k - i ≡ suc (k - (i + 1)) = omega arith in
        let next = place_more sh (k - (i + 1)) (drop at b) (omega (arith, size, some_long n h)) in
        let step : place sh (k - i) (drop at b) ≡ n + place sh (k - (i + 1)) (drop (at + n) b) =
        ap (λ (j : ℕ). place sh j (drop at b)) one ∙ next ∙ rw (← size, drop-drop n at b) in
        omega (arith, so, step)
