-- Laws of a record's leader: what its tests tell of the record, before its fields. Assumes nothing.
use Prim.Native.Nat.{ℕ, ◌+◌, ◌-◌, ◌*◌, ◌/◌, ◌%◌, ◌≤◌}
use mathlib.Core.Bool.{Bool, true, false, not}
use mathlib.Core.List.{List}
use mathlib.Core.Path.{◌≡◌, refl, sym}
use native.Mathlib.Nat.{div-add-mod', le-div_iff_mul-le}
use native.Mathlib.Omega.{arith}
use lib.ListN.{length}
use lib.Dec.{leb, eqb}
use borrow.Author.Tests.{leb-true, eqb-true, le-leb}
use Rattle.octets.specs.Number.{byte_at}
use Rattle.octets.proofs.Tests.{told_yes, both, all3, all4}
use Rattle.iso8211.specs.Leader.{size_at, base_at, length_digits, position_digits, leader_good}
use Rattle.iso8211.specs.Directory.{row_width}
use Rattle.iso8211.specs.Record.{in_row, body_good, record_good, Led}
use Rattle.iso8211.specs.Field.{count_at, directory_at}
use Rattle.iso8211.specs.Premises.{FramedAt}
use Rattle.iso8211.proofs.RecordLaws.{led}
use Rattle.recordfine.specs.declared.open.Open.{Open}
use Rattle.octets.specs.Told.{FiveTold}
use Rattle.recordfine.specs.Premises.{head_good, OpenAt, Opened}

pub opened_not : {s : List ℕ} {at : ℕ} (h : Open) → h.end ≡ 0 → Opened s at h
opened_not h e = record { told = λ (some : h.end ≡ 0 → ⊥). absurd (some e) }

pub opened_at : {s : List ℕ} {at : ℕ} {h : Open} → Opened s at h → (h.end ≡ 0 → ⊥) → OpenAt s at h
opened_at o some = o.told some

-- ---- the tests of a head, and what they tell
module _ (s : List ℕ) (at : ℕ) (lead : leader_good false s at ≡ true)
    (head : head_good s at (size_at s at) (base_at s at) (length_digits s at) (position_digits s at) ≡ true) where
  head_framed : FramedAt s at
  unfolding head_good count_at
  head_framed =
      let size = size_at s at in
      let base = base_at s at in
      let w = row_width (length_digits s at) (position_digits s at) in
      let a = all4 (leb size 99999) (leb (at + size) (length s)) (leb base size) _ head in
      let b = all3 (leb (25 + (w + w)) base) (eqb ((base - 25) % w) 0) _ a.3 in
      let low : 25 + (w + w) ≤ base = leb-true _ _ b.0 in
      let even : (base - 25) % w ≡ 0 = eqb-true _ _ b.1 in
      let sum : (base - 25) / w * w + (base - 25) % w ≡ base - 25 = div-add-mod' (base - 25) w in
      let fits : at + size ≤ length s = leb-true _ _ a.1 in
      let small : size ≤ 99999 = leb-true _ _ a.0 in
      let high : base ≤ size = leb-true _ _ a.2 in
      record {
        headed = record {
          led = led false s at true (sym lead) refl;
          room = omega arith;
          short = omega arith;
          low = omega arith;
          whole = omega arith;
          some = (le-div_iff_mul-le {k = w} {x = 1} {y = base - 25} (omega arith)).1 (omega arith);
        };
        fits = fits;
        small = small;
        high = high;
      }

  head_two : 2 ≤ count_at s at
  unfolding head_good count_at
  head_two =
      let size = size_at s at in
      let base = base_at s at in
      let w = row_width (length_digits s at) (position_digits s at) in
      let a = all4 (leb size 99999) (leb (at + size) (length s)) (leb base size) _ head in
      let b = all3 (leb (25 + (w + w)) base) (eqb ((base - 25) % w) 0) _ a.3 in
      let low : 25 + (w + w) ≤ base = leb-true _ _ b.0 in
      (le-div_iff_mul-le {k = w} {x = 2} {y = base - 25} (omega arith)).1 (omega arith)

  -- only the fields are left
  head_good_lem : record_good false s at ≡ in_row s (at + base_at s at) (size_at s at - base_at s at) (directory_at s at) 0
  unfolding head_good record_good body_good directory_at count_at
  head_good_lem =
      let size = size_at s at in
      let base = base_at s at in
      let w = row_width (length_digits s at) (position_digits s at) in
      let a = all4 (leb size 99999) (leb (at + size) (length s)) (leb base size) _ head in
      let b = all3 (leb (25 + (w + w)) base) (eqb ((base - 25) % w) 0) (eqb (byte_at s (at + base - 1)) 30) a.3 in
      let low : 25 + (w + w) ≤ base = leb-true _ _ b.0 in
      let one : leb (25 + w) base ≡ true = le-leb (25 + w) base (omega arith) in
      rw (lead, a.0, a.1, a.2, one, b.1, b.2)

pub led_so : (s : List ℕ) (at : ℕ) (r : Bool) → r ≡ leader_good false s at → not r ≡ false → Led s at
led_so s at r e h = led false s at r e h

size_few : (s : List ℕ) (at size base l p : ℕ) (q : Bool) → q ≡ head_good s at size base l p → not q ≡ false → (size ≤ 99999) × (base ≤ size)
unfolding head_good
size_few s at size base l p q f g =
    let good = told_yes q (head_good s at size base l p) f g in
    let a = all4 (leb size 99999) (leb (at + size) (length s)) (leb base size) _ good in
    (leb-true _ _ a.0, leb-true _ _ a.2)

pub base_low : (s : List ℕ) (at size base l p : ℕ) (q : Bool) → q ≡ head_good s at size base l p → not q ≡ false → 25 ≤ base
unfolding head_good
base_low s at size base l p q f g =
    let good = told_yes q (head_good s at size base l p) f g in
    let a = all4 (leb size 99999) (leb (at + size) (length s)) (leb base size) _ good in
    let low : 25 + (row_width l p + row_width l p) ≤ base = leb-true _ _ (both (leb (25 + (row_width l p + row_width l p)) base) _ a.3).0 in
    omega arith

-- ---- the leader and the head, read by the code
pub opened_so : (s : List ℕ) (at : ℕ) (size base l p : ℕ) (r q : Bool) → r ≡ leader_good false s at → not r ≡ false → FiveTold s at size → FiveTold s (at + 12) base
    → l ≡ length_digits s at → l ≤ 9 → p ≡ position_digits s at → p ≤ 9 → q ≡ head_good s at size base l p → not q ≡ false
    → Opened s at (record { end = at + size; body = at + base; lengths = l; positions = p })
opened_so s at size base l p r q e h sized based ls l9 ps p9 f g =
    let lead = told_yes r (leader_good false s at) e h in
    let few = size_few s at size base l p q f g in
    let is : size ≡ size_at s at = sized.told (omega arith) in
    let on : base ≡ base_at s at = based.told (omega arith) in
    let head : head_good s at (size_at s at) (base_at s at) (length_digits s at) (position_digits s at) ≡ true =
    rw (← is, ← on, ← ls, ← ps) (told_yes q (head_good s at size base l p) f g) in
    let framed = head_framed s at lead head in
    let fits = framed.fits in
    let high = framed.high in
    let small = framed.small in
    record {
      told = λ some. record {
        framed = framed;
        good = head_good_lem s at lead head;
        two = head_two s at lead head;
        ends = omega arith;
        fits = omega arith;
        body = omega arith;
        room = omega arith;
        small = omega arith;
        lengths = ls;
        positions = ps;
        slim = (l9, p9);
      };
    }
