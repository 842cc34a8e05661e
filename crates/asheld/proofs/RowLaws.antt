-- The rows of a directory whose digits are known to be such: how long and how far they go, and that they are written as they stand.
-- Assumes nothing.
use Prim.Native.Nat.{ℕ, zero, suc, ◌+◌, ◌-◌, ◌*◌, ◌/◌, ◌%◌, ◌^◌, ◌≤◌, ◌<◌}
use mathlib.Core.List.{List, [], ◌∷◌}
use mathlib.Core.Path.{◌≡◌, refl, sym, ap, ◌∙◌}
use native.Mathlib.Nat.{add_assoc, add-zero, suc-mul, zero-mul, mul-le-mul_right, one-le-pow, le_trans}
use native.Mathlib.Omega.{arith}
use lib.ListN.{length, take, drop, get_or}
use Rattle.octets.specs.Number.{byte_at}
use Rattle.octets.specs.Digits.{number_at}
use Rattle.octets.specs.Premises.{Sure}
use Rattle.iso8211.specs.Leader.{base_at, length_digits, position_digits}
use Rattle.iso8211.specs.Directory.{tag_at, row_at, rows, row_width, len, position}
use Rattle.iso8211.specs.Field.{count_at, directory_at, field_at}
use Rattle.iso8211.proofs.DirectoryLaws.{rows_row}
use Rattle.iso8211.proofs.Promise.{directory_length}
use Rattle.items.specs.Premises.{LaidOut}
use Rattle.records.specs.Written.{tag_bytes, row_bytes, rows_bytes, longest, farthest, length_size, position_size}
use Rattle.asheld.specs.Held.{LongRow}
use Rattle.asheld.proofs.PartLaws.{join, part_more}
use Rattle.asheld.proofs.DigitLaws.{digits_back, number_below, number_high, fewest_is}

-- ---- the longest and the farthest
longest_below : (es : List (List ℕ)) (b : ℕ) → 1 ≤ b → ((j : ℕ) → j < length es → len (get_or es j []) < b) → longest es < b
unfolding longest
longest_below [] b some all = omega arith
longest_below (e ∷ es) b some all =
    let here = all 0 (omega arith) in
    let rest = longest_below es b some (λ (j : ℕ) (h : j < length es). all (suc j) (omega arith)) in
    omega arith

farthest_below : (es : List (List ℕ)) (b : ℕ) → 1 ≤ b → ((j : ℕ) → j < length es → position (get_or es j []) < b) → farthest es < b
unfolding farthest
farthest_below [] b some all = omega arith
farthest_below (e ∷ es) b some all =
    let here = all 0 (omega arith) in
    let rest = farthest_below es b some (λ (j : ℕ) (h : j < length es). all (suc j) (omega arith)) in
    omega arith

longest_above : (es : List (List ℕ)) (j : ℕ) → j < length es → len (get_or es j []) ≤ longest es
unfolding longest
longest_above [] j h = absurd (omega arith)
longest_above (e ∷ es) zero h = omega arith
longest_above (e ∷ es) (suc j) h = omega (arith, longest_above es j (omega arith))

farthest_above : (es : List (List ℕ)) (j : ℕ) → j < length es → position (get_or es j []) ≤ farthest es
unfolding farthest
farthest_above [] j h = absurd (omega arith)
farthest_above (e ∷ es) zero h = omega arith
farthest_above (e ∷ es) (suc j) h = omega (arith, farthest_above es j (omega arith))

-- ---- one row
pub record RowSure (s : List ℕ) (l p i : ℕ) : Type 0 where
  pub lengths : Sure s (i + 4) l
  pub positions : Sure s (i + 4 + l) p

module _ (s : List ℕ) (small : (i : ℕ) → byte_at s i < 256) where
  tag_back : (i : ℕ) → i + 4 ≤ length s → tag_bytes (tag_at s i) ≡ take 4 (drop i s)
  unfolding tag_bytes tag_at
  tag_back i room =
      let a = byte_at s i in
      let b = byte_at s (i + 1) in
      let c = byte_at s (i + 2) in
      let d = byte_at s (i + 3) in
      let t = ((a * 256 + b) * 256 + c) * 256 + d in
      let ta : t / 256 / 256 / 256 ≡ a = omega (arith, small (i + 1), small (i + 2), small (i + 3)) in
      let tb : t / 256 / 256 % 256 ≡ b = omega (arith, small (i + 1), small (i + 2), small (i + 3)) in
      let tc : t / 256 % 256 ≡ c = omega (arith, small (i + 2), small (i + 3)) in
      let td : t % 256 ≡ d = omega (arith, small (i + 3)) in
      rw (ta, tb, tc, td)
      (ap (λ (l : List ℕ). a ∷ b ∷ c ∷ l) (part_more s (i + 3) (i + 4) 0 d (omega arith) refl (omega arith))
      ∙ ap (λ (l : List ℕ). a ∷ b ∷ l) (part_more s (i + 2) (i + 3) 1 c (omega arith) refl (omega arith))
      ∙ ap (λ (l : List ℕ). a ∷ l) (part_more s (i + 1) (i + 2) 2 b (omega arith) refl (omega arith))
      ∙ part_more s i (i + 1) 3 a refl refl (omega arith))

  row_back : (l p i : ℕ) → RowSure s l p i → i + row_width l p ≤ length s → row_bytes l p (row_at s l p i) ≡ take (row_width l p) (drop i s)
  unfolding row_bytes row_at
  row_back l p i sure room =
      rw (tag_back i (omega arith), digits_back sure.lengths, digits_back sure.positions, join s (i + 4) (i + 4 + l) l p refl (omega arith))
      (join s i (i + 4) 4 (l + p) refl (omega arith) ∙ ap (λ (k : ℕ). take k (drop i s)) (sym (add_assoc 4 l p)))

  pub rows_back : (n l p i : ℕ) → ((k : ℕ) → k < n → RowSure s l p (i + k * row_width l p)) → i + n * row_width l p ≤ length s
      → rows_bytes l p (rows n s l p i) ≡ take (n * row_width l p) (drop i s)
  unfolding rows_bytes rows
  rows_back zero l p i sure room = rw (zero-mul (row_width l p))
  rows_back (suc n) l p i sure room =
      let w = row_width l p in
      let times : suc n * w ≡ n * w + w = suc-mul n w in
      let here : RowSure s l p i = rw (zero-mul w, add-zero i) at (sure 0 (omega arith)) in
      let next : (k : ℕ) → k < n → RowSure s l p (i + w + k * w) =
      λ (k : ℕ) (h : k < n). let e : i + suc k * w ≡ i + w + k * w = let z = suc-mul k w in omega arith in rw e at (sure (suc k) (omega arith)) in
      let sum : w + n * w ≡ suc n * w = omega arith in
      rw (row_back l p i here (omega arith), rows_back n l p (i + w) next (omega arith))
      (join s i (i + w) w (n * w) refl (omega arith) ∙ ap (λ (k : ℕ). take k (drop i s)) sum)

-- ---- the directory of a record
module _ (s : List ℕ) (at : ℕ) (laid : LaidOut s at) where
  pub rows_room : at + 24 + count_at s at * row_width (length_digits s at) (position_digits s at) + 1 ≡ at + base_at s at
  rows_room = let whole = laid.inside.headed.whole in omega arith

  module _ (j : ℕ) (here : j < count_at s at) where
    pub row_of : get_or (directory_at s at) j [] ≡ row_at s (length_digits s at) (position_digits s at) (at + 24 + j * row_width (length_digits s at) (position_digits s at))
    unfolding directory_at
    row_of = rows_row (count_at s at) j s (length_digits s at) (position_digits s at) (at + 24) here

    pub len_of : len (get_or (directory_at s at) j []) ≡ number_at s (at + 24 + j * row_width (length_digits s at) (position_digits s at) + 4) (length_digits s at)
    unfolding row_at
    len_of = rw row_of

    pub position_of : position (get_or (directory_at s at) j [])
        ≡ number_at s (at + 24 + j * row_width (length_digits s at) (position_digits s at) + 4 + length_digits s at) (position_digits s at)
    unfolding row_at
    position_of = rw row_of

    pub row_end : len (get_or (directory_at s at) j []) + position (get_or (directory_at s at) j []) ≤ 300000
    unfolding field_at
    row_end =
        let within = (laid.inside.fields j here).within in
        let small = laid.inside.small in
        omega arith

    pub row_fits : at + base_at s at + (len (get_or (directory_at s at) j []) + position (get_or (directory_at s at) j [])) ≤ length s
    unfolding field_at
    row_fits =
        let within = (laid.inside.fields j here).within in
        let fits = laid.inside.fits in
        omega arith

    pub row_sure : RowSure s (length_digits s at) (position_digits s at) (at + 24 + j * row_width (length_digits s at) (position_digits s at))
    row_sure =
        let w = row_width (length_digits s at) (position_digits s at) in
        let step : suc j * w ≤ count_at s at * w = mul-le-mul_right w here in
        let times : suc j * w ≡ j * w + w = suc-mul j w in
        let room = laid.inside.headed.room in
        let led = laid.inside.headed.led in
        let l_high = led.l_high in
        let p_high = led.p_high in
        record {
          lengths = record { few = omega arith; room = omega (arith, rows_room); number = rw (← len_of) (omega (arith, row_end)) };
          positions = record { few = omega arith; room = omega (arith, rows_room); number = rw (← position_of) (omega (arith, row_end)) };
        }

  longest_fits : longest (directory_at s at) < 10 ^ length_digits s at
  longest_fits =
      longest_below (directory_at s at) (10 ^ length_digits s at) (one-le-pow (length_digits s at) 10 (omega arith))
      (λ (j : ℕ) (h : j < length (directory_at s at)).
      let here : j < count_at s at = rw (← (directory_length s at)) h in
      rw (len_of j here) (number_below (row_sure j here).lengths))

  farthest_fits : farthest (directory_at s at) < 10 ^ position_digits s at
  farthest_fits =
      farthest_below (directory_at s at) (10 ^ position_digits s at) (one-le-pow (position_digits s at) 10 (omega arith))
      (λ (j : ℕ) (h : j < length (directory_at s at)).
      let here : j < count_at s at = rw (← (directory_length s at)) h in
      rw (position_of j here) (number_below (row_sure j here).positions))

  -- a length and a position that don't begin with 0: no digit can be spared
  pub lengths_fewest : LongRow s (at + 24) (count_at s at) (row_width (length_digits s at) (position_digits s at)) → length_size (directory_at s at) ≡ length_digits s at
  lengths_fewest long =
      let j = long.row in
      let here = long.below in
      let low = laid.inside.headed.led.l_low in
      let high : 10 ^ (length_digits s at - 1) ≤ len (get_or (directory_at s at) j []) =
      rw (len_of j here) (number_high (length_digits s at) (omega arith) (row_sure j here).lengths long.digit) in
      let most = longest_above (directory_at s at) j (rw (directory_length s at) here) in
      fewest_is (length_digits s at) (longest (directory_at s at)) (omega arith) (le_trans high most) longest_fits

  pub positions_fewest : (i : ℕ) → i ≡ at + 24 + (count_at s at - 1) * row_width (length_digits s at) (position_digits s at) → (byte_at s (i + 4 + length_digits s at) ≡ 48 → ⊥)
      → position_size (directory_at s at) ≡ position_digits s at
  positions_fewest i is ne =
      let j = count_at s at - 1 in
      let some = laid.two in
      let here : j < count_at s at = omega arith in
      let low = laid.inside.headed.led.p_low in
      let high : 10 ^ (position_digits s at - 1) ≤ position (get_or (directory_at s at) j []) =
      rw (position_of j here) (number_high (position_digits s at) (omega arith) (row_sure j here).positions (rw is at ne)) in
      let most = farthest_above (directory_at s at) j (rw (directory_length s at) here) in
      fewest_is (position_digits s at) (farthest (directory_at s at)) (omega arith) (le_trans high most) farthest_fits
