-- What the tests of a record's bytes tell, one law for each way through the code. Assumes nothing.
use Prim.Native.Nat.{ℕ, suc, ◌+◌, ◌-◌, ◌*◌, ◌≤◌, ◌<◌}
use mathlib.Core.Bool.{Bool, true, false, not}
use mathlib.Core.List.{List}
use mathlib.Core.Path.{◌≡◌, refl, sym, ap, ◌∙◌}
use native.Mathlib.Nat.{suc-mul}
use native.Mathlib.Omega.{arith}
use lib.ListN.{length}
use lib.Dec.{eqb}
use borrow.Author.Tests.{eqb-true, not-false}
use Rattle.octets.specs.Number.{byte_at}
use Rattle.octets.specs.Digits.{number_at}
use Rattle.octets.specs.Premises.{Sure}
use Rattle.iso8211.specs.Leader.{length_digits, position_digits}
use Rattle.iso8211.specs.Directory.{row_width, len, position}
use Rattle.iso8211.specs.Field.{count_at}
use Rattle.iso8211.specs.Premises.{HeadOf}
use Rattle.iso8211.specs.declared.field.Head.{Head}
use Rattle.items.specs.Premises.{LaidOut}
use Rattle.itemrows.specs.Plain.{PlainTold}
use Rattle.asheld.specs.Held.{LongTold, ClosedTold, NarrowTold, LastAt, LastEnd, HeldTold, last_row}
use Rattle.asheld.proofs.RowLaws.{lengths_fewest, positions_fewest, row_sure, row_end, len_of, position_of}

never : {A : Type 0} → false ≡ true → A
never e = absurd (let z : ◌≡◌ {A = ℕ} 0 1 = cc in omega arith)

-- ---- is_closed
pub closed_no : (s : List ℕ) (at base : ℕ) → ClosedTold s at base false
closed_no s at base = record { is = λ (e : false ≡ true). never e }

pub closed_by : (s : List ℕ) (at base : ℕ) → byte_at s (at + 22) ≡ 48 → byte_at s (at + 23) ≡ 52 → ClosedTold s at base (eqb (byte_at s (at + base - 1)) 30)
closed_by s at base z f =
    record { is = λ (e : eqb (byte_at s (at + base - 1)) 30 ≡ true). record { nought = z; four = f; closing = eqb-true (byte_at s (at + base - 1)) 30 e } }

-- ---- last_place
pub last_at : {s : List ℕ} {at : ℕ} {h : Head} → HeadOf s at h → LastAt s at (at + h.base - 1 - (4 + h.lengths + h.positions))
last_at {s} {at} {h} head =
    let w = row_width (length_digits s at) (position_digits s at) in
    let some = head.headed.some in
    let whole = head.headed.whole in
    let room = head.headed.room in
    let b = head.base in
    let l = head.lengths in
    let p = head.positions in
    let one : count_at s at ≡ suc (count_at s at - 1) = omega arith in
    let times : count_at s at * w ≡ (count_at s at - 1) * w + w = ap (λ (k : ℕ). k * w) one ∙ suc-mul (count_at s at - 1) w in
    record { is = omega arith; room = omega arith }

-- ---- is_narrow
pub narrow_no : (s : List ℕ) (at : ℕ) → NarrowTold s at false
narrow_no s at = record { is = λ (e : false ≡ true). never e }

pub rows_within : {s : List ℕ} {at : ℕ} {h : Head} → HeadOf s at h → at + 24 + h.count * (4 + h.lengths + h.positions) ≤ length s
rows_within {s} {at} {h} head =
    let whole = head.headed.whole in
    let room = head.headed.room in
    rw (head.count, head.lengths, head.positions) (omega arith)

pub narrow_by : {s : List ℕ} {at : ℕ} {h : Head} (i : ℕ) (r : Bool) → LaidOut s at → HeadOf s at h → LastAt s at i → (byte_at s (i + 4 + h.lengths) ≡ 48 → ⊥)
    → LongTold s (at + 24) h.count (4 + h.lengths + h.positions) r → NarrowTold s at r
narrow_by {s} {at} {h} i r laid head last ne long =
    record {
      is = λ (e : r ≡ true).
          record {
            lengths = lengths_fewest s at laid (rw (head.count, head.lengths, head.positions) at (long.is e));
            positions = positions_fewest s at laid i last.is (rw head.lengths at ne);
          };
    }

-- ---- last_end
module _ {s : List ℕ} {at : ℕ} {h : Head} (i : ℕ) (laid : LaidOut s at) (head : HeadOf s at h) (last : LastAt s at i) where
  here : count_at s at - 1 < count_at s at
  here = let two = laid.two in omega arith

  pub last_length : Sure s (i + 4) h.lengths
  last_length = rw (last.is, head.lengths) (row_sure s at laid (count_at s at - 1) here).lengths

  pub last_position : Sure s (i + 4 + h.lengths) h.positions
  last_position = rw (last.is, head.lengths, head.positions) (row_sure s at laid (count_at s at - 1) here).positions

  pub last_sum : (a b : ℕ) → a ≡ number_at s (i + 4) h.lengths → b ≡ number_at s (i + 4 + h.lengths) h.positions → LastEnd s at (a + b)
  last_sum a b ea eb =
      let la : a ≡ len (last_row s at) = ea ∙ rw (last.is, head.lengths) (sym (len_of s at laid (count_at s at - 1) here)) in
      let lb : b ≡ position (last_row s at) = eb ∙ rw (last.is, head.lengths, head.positions) (sym (position_of s at laid (count_at s at - 1) here)) in
      record { is = omega arith; few = omega (arith, row_end s at laid (count_at s at - 1) here) }

-- ---- held_size
pub held_no : (s : List ℕ) (at : ℕ) → HeldTold s at 0
held_no s at = record { is = λ (ne : ◌≡◌ {A = ℕ} 0 0 → ⊥). absurd (ne refl); few = omega arith }

pub held_by_lem : {s : List ℕ} {at : ℕ} {h : Head} (a b c : Bool) (n : ℕ) → HeadOf s at h → PlainTold s at a → not a ≡ false → NarrowTold s at b → not b ≡ false
    → ClosedTold s at h.base c → not c ≡ false → LastEnd s at n → HeldTold s at (h.base + n)
held_by_lem {s} {at} {h} a b c n head plain pa narrow nb closed cc' last =
    let short = head.headed.short in
    let base = head.base in
    let few = last.few in
    let sum = last.is in
    record {
      is = λ (ne : h.base + n ≡ 0 → ⊥).
          record {
            plain = plain.is (not-false a pa);
            narrow = narrow.is (not-false b nb);
            closed = rw base at (closed.is (not-false c cc'));
            long = omega arith;
          };
      few = omega arith;
    }
