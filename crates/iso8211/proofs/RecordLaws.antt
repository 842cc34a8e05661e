-- Laws of records: the walk over the batches of a directory, what a good record tells. Assumes nothing.
use Prim.Native.Nat.{ℕ, ◌+◌, ◌-◌, ◌*◌, ◌/◌, ◌%◌, ◌≤◌}
use mathlib.Core.Bool.{Bool, true, false, not, ◌&&◌}
use mathlib.Core.List.{List, ◌++◌}
use mathlib.Core.Path.{◌≡◌, refl, sym, ap, ◌∙◌}
use native.Mathlib.Nat.{mul-le-mul_right, add-mul, add-sub_of_le, div-add-mod', le-div_iff_mul-le}
use native.Mathlib.Omega.{arith}
use lib.ListN.{length, take}
use lib.Dec.{leb, eqb}
use borrow.Author.Tests.{leb-true, eqb-true}
use Rattle.std.specs.Prelude.{Option, Some, None}
use Rattle.octets.specs.Number.{byte_at}
use Rattle.octets.specs.Place.{some_place}
use Rattle.octets.proofs.PlaceLaws.{nowhere, somewhere}
use Rattle.octets.proofs.Tests.{told_no, told_yes, both, all3, all4}
use Rattle.iso8211.specs.Leader.{size_at, base_at, length_digits, position_digits, kind_good, size_good, leader_good}
use Rattle.iso8211.specs.Directory.{row_width, rows}
use Rattle.iso8211.specs.Record.{in_row, body_good, record_good, Led}
use Rattle.iso8211.specs.Premises.{onward, StepWithin, BatchStep, good_end, FramedAt}
use Rattle.iso8211.specs.Field.{count_at, directory_at}
use Rattle.iso8211.proofs.DirectoryLaws.{rows_split, rows_none}

-- ---- fields_good: batch by batch
-- v, the answer for all rows, is the answer for the rows that are left, from `at` on, the next field due at `due`
pub record Left (s : List ℕ) (l p body size : ℕ) (v : Bool) (left at due : ℕ) : Type 0 where
  pub is : v ≡ in_row s body size (rows left s l p at) due

pub left_start : (s : List ℕ) (l p body size count i : ℕ) → Left s l p body size (in_row s body size (rows count s l p i) 0) count i 0
left_start s l p body size count i = record { is = refl }

module _ {s : List ℕ} {l p body size : ℕ} {v : Bool} {left at due : ℕ} (so : Left s l p body size v left at due) (n : ℕ) (few : n ≤ left) (batch : List (List ℕ))
    (taken : take n batch ≡ rows n s l p at) where
  batched : {r : Option ℕ} → BatchStep s body size (take n batch) due r → v ≡ onward s body size (rows (left - n) s l p (at + n * row_width l p)) r
  batched step =
      so.is ∙ ap (λ (x : List (List ℕ)). in_row s body size x due)
      (rows_split n (left - n) left s l p at (omega arith) ∙ ap (λ (x : List (List ℕ)). x ++ rows (left - n) s l p (at + n * row_width l p)) (sym taken))
      ∙ step.is (rows (left - n) s l p (at + n * row_width l p))

  pub left_bad : {r : Option ℕ} → BatchStep s body size (take n batch) due r → r ≡ None → false ≡ v
  unfolding onward
  left_bad step told = sym (batched (rw told at step))

  pub left_on : {r : Option ℕ} {next : ℕ} → BatchStep s body size (take n batch) due r → r ≡ Some next → Left s l p body size v (left - n) (at + n * row_width l p) next
  unfolding onward
  left_on step told = record { is = batched (rw told at step) }

pub batch_most : {s : List ℕ} {body size due : ℕ} {some : List (List ℕ)} {r : Option ℕ} {next : ℕ} → BatchStep s body size some due r → r ≡ Some next → next ≤ size
unfolding StepWithin
batch_most step told = (rw told at step).within

pub left_end : {s : List ℕ} {l p body size : ℕ} {v : Bool} {left at due : ℕ} → Left s l p body size v left at due → left ≡ 0 → eqb due size ≡ v
unfolding in_row
left_end {s} {l} {p} {body} {size} {v} {left} {at} {due} so e = sym (so.is ∙ rw (e, ← rows_none s l p at))

-- the rows of a batch are within what is left
pub left_room : (at n left w long : ℕ) → n ≤ left → at + left * w ≤ long → at + n * w ≤ long
left_room at n left w long h fit = let step : n * w ≤ left * w = mul-le-mul_right w h in omega arith

pub left_less : (at n left w long : ℕ) → n ≤ left → at + left * w ≤ long → at + n * w + (left - n) * w ≤ long
left_less at n left w long h fit =
    let sum : left * w ≡ n * w + (left - n) * w = ap (λ (x : ℕ). x * w) (sym (add-sub_of_le h)) ∙ add-mul n (left - n) w in
    omega arith

-- ---- good_end: the leader, then the rest
pub led : (first : Bool) (s : List ℕ) (at : ℕ) (r : Bool) → r ≡ leader_good first s at → not r ≡ false → Led s at
unfolding leader_good size_good
led first s at r e h =
    let good = told_yes r (leader_good first s at) e h in
    let b20 = byte_at s (at + 20) in
    let b21 = byte_at s (at + 21) in
    let p = all4 (leb (at + 24) (length s)) (kind_good first s at) (leb 49 b20 && leb b20 57)
    ((leb 49 b21 && leb b21 57) && (eqb (byte_at s (at + 22)) 48 && eqb (byte_at s (at + 23)) 52)) good in
    let l = both (leb 49 b20) (leb b20 57) p.2 in
    let q = both (leb 49 b21 && leb b21 57) (eqb (byte_at s (at + 22)) 48 && eqb (byte_at s (at + 23)) 52) p.3 in
    let m = both (leb 49 b21) (leb b21 57) q.0 in
    record { there = leb-true _ _ p.0; l_low = leb-true _ _ l.0; l_high = leb-true _ _ l.1; p_low = leb-true _ _ m.0; p_high = leb-true _ _ m.1 }

pub end_led : (first : Bool) (s : List ℕ) (at : ℕ) (r : Bool) → r ≡ leader_good first s at → not r ≡ true → None ≡ some_place (good_end first s at)
unfolding good_end record_good
end_led first s at r e h = nowhere (rw (told_no r (leader_good first s at) e h))

-- a record whose body is good ends within the file
pub end_within : (s : List ℕ) (at size base l p : ℕ) (q : Bool) → q ≡ body_good s at size base l p → not q ≡ false → at + size ≤ length s
unfolding body_good
end_within s at size base l p q f g =
    let good = told_yes q (body_good s at size base l p) f g in
    leb-true _ _ (all3 (leb size 99999) (leb (at + size) (length s)) _ good).1

-- and has a byte
end_not_zero : (s : List ℕ) (at size base l p : ℕ) (q : Bool) → q ≡ body_good s at size base l p → not q ≡ false → at + size ≡ 0 → ⊥
unfolding body_good
end_not_zero s at size base l p q f g z =
    let a = all4 (leb size 99999) (leb (at + size) (length s)) (leb base size) _ (told_yes q (body_good s at size base l p) f g) in
    let high : base ≤ size = leb-true _ _ a.2 in
    let low : 25 + row_width l p ≤ base = leb-true _ _ (both (leb (25 + row_width l p) base) _ a.3).0 in
    omega arith

module _ (first : Bool) (s : List ℕ) (at size base l p : ℕ) (r q : Bool) (e : r ≡ leader_good first s at) (h : not r ≡ false)
    (is : size ≡ size_at s at) (based : base ≡ base_at s at) (ls : l ≡ length_digits s at) (ps : p ≡ position_digits s at) (f : q ≡ body_good s at size base l p) where
  same_body : body_good s at size base l p ≡ body_good s at (size_at s at) (base_at s at) (length_digits s at) (position_digits s at)
  same_body = rw (is, based, ls, ps)

  pub end_body : not q ≡ true → None ≡ some_place (good_end first s at)
  unfolding good_end record_good
  end_body g = nowhere (rw (told_yes r (leader_good first s at) e h, ← same_body, told_no q (body_good s at size base l p) f g))

  pub end_good_lem : not q ≡ false → Some (at + size) ≡ some_place (good_end first s at)
  unfolding good_end record_good
  end_good_lem g =
      let there : at + size ≡ good_end first s at =
      rw (told_yes r (leader_good first s at) e h, ← same_body, told_yes q (body_good s at size base l p) f g, is) in
      somewhere _ there (end_not_zero s at size base l p q f g)

-- ---- what a good record tells
pub record_framed : (first : Bool) (s : List ℕ) (at : ℕ) → record_good first s at ≡ true → FramedAt s at
unfolding record_good body_good count_at
record_framed first s at good =
    let size = size_at s at in
    let base = base_at s at in
    let w = row_width (length_digits s at) (position_digits s at) in
    let p = both (leader_good first s at) _ good in
    let a = all4 (leb size 99999) (leb (at + size) (length s)) (leb base size) _ p.1 in
    let b = all3 (leb (25 + w) base) (eqb ((base - 25) % w) 0) _ a.3 in
    let low : 25 + w ≤ base = leb-true _ _ b.0 in
    let even : (base - 25) % w ≡ 0 = eqb-true _ _ b.1 in
    let sum : (base - 25) / w * w + (base - 25) % w ≡ base - 25 = div-add-mod' (base - 25) w in
    let fits : at + size ≤ length s = leb-true _ _ a.1 in
    let small : size ≤ 99999 = leb-true _ _ a.0 in
    let high : base ≤ size = leb-true _ _ a.2 in
    record {
      headed = record {
        led = led first s at true (sym p.0) refl;
        room = omega arith;
        short = omega arith;
        low = low;
        whole = omega arith;
        some = (le-div_iff_mul-le {k = w} {x = 1} {y = base - 25} (omega arith)).1 (omega arith);
      };
      fits = fits;
      small = small;
      high = high;
    }

pub record_row : (first : Bool) (s : List ℕ) (at : ℕ) → record_good first s at ≡ true → in_row s (at + base_at s at) (size_at s at - base_at s at) (directory_at s at) 0 ≡ true
unfolding record_good body_good directory_at count_at
record_row first s at good =
    let size = size_at s at in
    let base = base_at s at in
    let w = row_width (length_digits s at) (position_digits s at) in
    let p = both (leader_good first s at) _ good in
    let a = all4 (leb size 99999) (leb (at + size) (length s)) (leb base size) _ p.1 in
    let b = all4 (leb (25 + w) base) (eqb ((base - 25) % w) 0) (eqb (byte_at s (at + base - 1)) 30) _ a.3 in
    b.3
