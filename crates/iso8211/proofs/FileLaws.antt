-- Laws of files: the walk over the records, one law for each way through a turn; and what a framed file tells of each record.
-- Assumes nothing.
use Prim.Native.Nat.{ℕ, zero, suc, ◌+◌, ◌-◌, ◌≤◌, ◌<◌}
use mathlib.Core.Bool.{Bool, true, false, cond}
use mathlib.Core.List.{List}
use mathlib.Core.Logic.{⊎_elim, ◌⊎◌, inl, inr}
use mathlib.Core.Path.{◌≡◌, refl, sym, ap, ◌∙◌}
use native.Mathlib.Omega.{arith}
use lib.ListN.{length}
use lib.Dec.{eqb}
use borrow.Author.Tests.{eq-eqb, ne_eqb}
use Rattle.std.specs.Prelude.{Result, Ok, Err, Some, None}
use Rattle.octets.specs.Place.{some_place}
use Rattle.octets.proofs.Cases.{true_or_false}
use Rattle.octets.proofs.PlaceLaws.{nowhere_told, somewhere_told}
use Rattle.iso8211.specs.Record.{record_good, end_of}
use Rattle.iso8211.specs.Premises.{good_end}
use Rattle.iso8211.specs.File.{framed_from, frame_of}
use Rattle.iso8211.proofs.RecordLaws.{record_framed}

-- ---- a record's end is past its start
pub end_past : (first : Bool) (s : List ℕ) (at : ℕ) → record_good first s at ≡ true → at < end_of s at
end_past first s at good = let f = record_framed first s at good in let low = f.headed.low in let high = f.high in omega arith

-- ---- what an end tells of its record
end_none : (first : Bool) (s : List ℕ) (at : ℕ) → None ≡ some_place (good_end first s at) → record_good first s at ≡ false
unfolding good_end
end_none first s at is =
    ⊎_elim (λ (g : record_good first s at ≡ true).
    let p = end_past first s at g in
    let q : end_of s at ≡ 0 = rw g at (nowhere_told _ is) in
    absurd (omega arith))
    (λ (g : record_good first s at ≡ false). g) (true_or_false (record_good first s at))

pub end_some : (first : Bool) (s : List ℕ) (at e : ℕ) → Some e ≡ some_place (good_end first s at) → (record_good first s at ≡ true) × (e ≡ end_of s at)
unfolding good_end
end_some first s at e is =
    let told = somewhere_told _ is in
    ⊎_elim (λ (g : record_good first s at ≡ true). (g, told.0 ∙ rw g))
    (λ (g : record_good first s at ≡ false). absurd (told.1 (told.0 ∙ rw g))) (true_or_false (record_good first s at))

framed_next : (f : ℕ) (s : List ℕ) (at k : ℕ) → record_good (eqb k 0) s at ≡ true → eqb (end_of s at) (length s) ≡ false → framed_from (suc f) s at k ≡ framed_from f s (end_of s at)
    (k + 1)
unfolding framed_from
framed_next f s at k good more = rw (good, more)

-- ---- frame: one law for each way through a turn
pub frame_start : (s : List ℕ) → frame_of s ≡ framed_from (suc (length s - 0)) s 0 0
unfolding frame_of
frame_start s = rw (native.Mathlib.Nat.sub-zero (length s))

module _ (s : List ℕ) (at k : ℕ) (so : frame_of s ≡ framed_from (suc (length s - k)) s at k) where
  pub frame_broken : None ≡ some_place (good_end (eqb k 0) s at) → Err k ≡ frame_of s
  unfolding framed_from
  frame_broken is = sym (so ∙ rw (end_none (eqb k 0) s at is))

  module _ (e : ℕ) (is : Some e ≡ some_place (good_end (eqb k 0) s at)) where
    pub frame_done : e ≡ length s → Ok (k + 1) ≡ frame_of s
    unfolding framed_from
    frame_done done = let g = end_some (eqb k 0) s at e is in sym (so ∙ rw (g.0, eq-eqb _ _ (sym g.1 ∙ done)))

    pub frame_past : at < e
    frame_past = let g = end_some (eqb k 0) s at e is in let p = end_past (eqb k 0) s at g.0 in let q = g.1 in omega arith

    pub frame_on : (e ≡ length s → ⊥) → k ≤ at → e ≤ length s → frame_of s ≡ framed_from (suc (length s - (k + 1))) s e (k + 1)
    frame_on more low most =
        let g = end_some (eqb k 0) s at e is in
        let past = frame_past in
        let fuel : length s - k ≡ suc (length s - (k + 1)) = omega arith in
        so ∙ framed_next (length s - k) s at k g.0 (ne_eqb (end_of s at) (length s) (λ d. more (g.1 ∙ d)))
        ∙ ap (λ (x : ℕ). framed_from (length s - k) s x (k + 1)) (sym g.1) ∙ ap (λ (n : ℕ). framed_from n s e (k + 1)) fuel

-- ---- fuel beyond the bytes left changes nothing
pub fuel_same : (f g : ℕ) (s : List ℕ) (at k : ℕ) → length s - at < f → length s - at < g → framed_from f s at k ≡ framed_from g s at k
unfolding framed_from
fuel_same zero g s at k a b = absurd (omega arith)
fuel_same (suc f) zero s at k a b = absurd (omega arith)
fuel_same (suc f) (suc g) s at k a b =
    ⊎_elim (λ (good : record_good (eqb k 0) s at ≡ true).
    let past = end_past (eqb k 0) s at good in
    let fits = (record_framed (eqb k 0) s at good).fits in
    rw (good, fuel_same f g s (end_of s at) (k + 1) (omega arith) (omega arith)))
    (λ (bad : record_good (eqb k 0) s at ≡ false). rw bad) (true_or_false (record_good (eqb k 0) s at))

-- ---- there is one verdict
pub frame_only : (s : List ℕ) (r q : Result ℕ ℕ) → r ≡ frame_of s → q ≡ frame_of s → r ≡ q
frame_only s r q e f = e ∙ sym f

-- out of a verdict: the record is good, and it is the last or the rest has the verdict
pub apart : (good last : Bool) (k n : ℕ) (on : Result ℕ ℕ) → cond good (cond last (Ok (k + 1)) on) (Err k) ≡ Ok n
    → (good ≡ true) × (((last ≡ true) × (k + 1 ≡ n)) ⊎ ((last ≡ false) × (on ≡ Ok n)))
apart true true k n on h = (refl, inl (refl, cc))
apart true false k n on h = (refl, inr (refl, h))
apart false last k n on h = absurd (let z : ◌≡◌ {A = ℕ} 0 1 = cc in omega arith)
