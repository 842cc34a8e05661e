-- Laws of format lists. Assumes nothing.
use Prim.Native.Nat.{ℕ, zero, suc, ◌+◌, ◌-◌, ◌*◌, ◌^◌, ◌≤◌, ◌<◌}
use mathlib.Core.Bool.{Bool, true, false, cond, ◌&&◌}
use mathlib.Core.List.{List, [], ◌∷◌, ◌++◌, append_assoc, append-nil}
use mathlib.Core.Logic.{◌⊎◌, ⊎_elim}
use mathlib.Core.Path.{◌≡◌, refl, sym, ap, ◌∙◌}
use native.Mathlib.Nat.{add-zero, sub-zero, add_assoc, pow-suc, pow-le-pow_right, mul-le-mul_right, suc-mul}
use native.Mathlib.Numerals.{add-one}
use native.Mathlib.Omega.{arith}
use lib.ListN.{length, take, drop, set, replicate, length-drop, get_or-eq_default}
use Rattle.std.proofs.lemmas.List.{drop-replicate}
use Rattle.std.proofs.lemmas.Slice.{take-put_mid, drop-put_mid}
use borrow.Rule.Slice.PartMut.{put_mid, same_len_mid}
use lib.Seq.{drop-drop, length-take-le}
use lib.Dec.{eqb, leb}
use lib.Pointwise.{pointwise}
use borrow.Author.Tests.{eq-eqb, ne_eqb, lt-ltb, le-ltb, lt-leb, le-leb}
use Rattle.octets.specs.Number.{byte_at}
use Rattle.octets.specs.Digits.{is_digit}
use Rattle.octets.proofs.Cases.{le_or_lt}
use Rattle.fieldparts.specs.Same.{same_list}
use Rattle.fieldparts.proofs.SameLaws.{same_pointwise}
use Rattle.formats.specs.declared.Taken.{Taken}
use Rattle.formats.specs.declared.Formats.{Formats}
use Rattle.formats.specs.Formats.{digit_at, taken, short_from, short_at, count_at, is_letter, closed, sized_at, counts, binary_at, primitive_at, Form, form, broken, single}
use Rattle.formats.specs.Formats.{repeated, joined, followed, item_at, items_from, list_at}
use Rattle.formats.specs.Premises.{Seen, Digit, Short, Primitive, forms_of, nothing, Filled, Written}

-- ---- byte and digit
pub seen_past : (s : List ℕ) (i : ℕ) → length s ≤ i → Seen s i 0
seen_past s i past = record { is = sym (get_or-eq_default s 0 {n = i} past); small = omega arith; inside = omega arith }

pub digit_none : {s : List ℕ} {i b : ℕ} → Seen s i b → ((48 ≤ b) × (57 < b)) ⊎ (b < 48) → Digit s i 10
unfolding digit_at is_digit
digit_none {s} {i} {b} seen h =
    let no : is_digit b ≡ false = ⊎_elim (λ (g : (48 ≤ b) × (57 < b)). rw (le-leb 48 b g.0, lt-leb b 57 g.1)) (λ (l : b < 48). rw (lt-leb 48 b l)) h in
    record { is = rw (← seen.is, no); small = omega arith; inside = omega arith }

pub digit_some : {s : List ℕ} {i b : ℕ} → Seen s i b → 48 ≤ b → b ≤ 57 → Digit s i (b - 48)
unfolding digit_at is_digit
digit_some {s} {i} {b} seen l h =
    let z = seen.inside in record { is = rw (← seen.is, le-leb 48 b l, le-leb b 57 h); small = omega arith; inside = omega arith }

-- ---- short: the walk's equations, and one law for each way through a turn
short_stop : (n m : ℕ) (s : List ℕ) (i led d : ℕ) → n ≡ suc m → d ≡ digit_at s i → 9 < d → short_from n s i led ≡ taken led i
unfolding short_from
short_stop n m s i led d e is h = rw (e, ← is, lt-ltb 9 d h)

short_next : (n m : ℕ) (s : List ℕ) (i led d : ℕ) → n ≡ suc m → d ≡ digit_at s i → d ≤ 9 → short_from n s i led ≡ short_from m s (i + 1) (led * 10 + d)
unfolding short_from
short_next n m s i led d e is h = rw (e, ← is, le-ltb 9 d h)

pub short_zero : {s : List ℕ} {at d : ℕ} → at ≤ length s → Digit s at d → d ≡ 0 → Short (short_at s at) s at (taken 0 at)
unfolding short_at
short_zero {s} {at} {d} in_s digit h = record { is = rw (← digit.is, eq-eqb d 0 h); after = omega arith; within = in_s; small = omega arith }

pub short_start : {s : List ℕ} {at d : ℕ} → Digit s at d → (d ≡ 0 → ⊥) → short_at s at ≡ short_from (3 - 0) s (at + 0) 0
unfolding short_at
short_start {s} {at} {d} digit h = rw (← digit.is, ne_eqb d 0 h, add-zero at)

led_small : (n led : ℕ) → led < 10 ^ n → n ≤ 3 → led ≤ 999
led_small n led small h = let top : 10 ^ n ≤ 10 ^ 3 = pow-le-pow_right {n = 10} (omega arith) {i = n} {j = 3} h in omega arith

pub led_below : (n led : ℕ) → led < 10 ^ n → n < 3 → led < 100
led_below n led small h = let top : 10 ^ n ≤ 10 ^ 2 = pow-le-pow_right {n = 10} (omega arith) {i = n} {j = 2} (omega arith) in omega arith

pub led_grows : (n led d : ℕ) → led < 10 ^ n → d ≤ 9 → led * 10 + d < 10 ^ (n + 1)
led_grows n led d small h = rw (add-one n, pow-suc 10 n) (omega arith)

module _ {s : List ℕ} (at n : ℕ) {led d : ℕ} (more : n < 3) (in_s : at + n ≤ length s) (small : led < 10 ^ n) (so : short_at s at ≡ short_from (3 - n) s (at + n) led)
    (digit : Digit s (at + n) d) where
  pub short_ends : 9 < d → Short (short_at s at) s at (taken led (at + n))
  short_ends h = record {
    is = sym (so ∙ short_stop (3 - n) (3 - (n + 1)) s (at + n) led d (omega arith) digit.is h);
    after = omega arith;
    within = in_s;
    small = led_small n led small (omega arith);
  }

  pub short_more : d ≤ 9 → short_at s at ≡ short_from (3 - (n + 1)) s (at + (n + 1)) (led * 10 + d)
  short_more h = so ∙ short_next (3 - n) (3 - (n + 1)) s (at + n) led d (omega arith) digit.is h ∙ rw (add_assoc at n 1)

pub short_full : {s : List ℕ} {at n led : ℕ} → 3 ≤ n → n ≤ 3 → at + n ≤ length s → led < 10 ^ n → short_at s at ≡ short_from (3 - n) s (at + n) led
    → Short (short_at s at) s at (taken led (at + 3))
unfolding short_from
short_full {s} {at} {n} {led} l h in_s small so =
    let three : n ≡ 3 = omega arith in
    record { is = sym (rw three at so); after = omega arith; within = omega arith; small = led_small n led small h }

-- ---- count
pub count_absent : {s : List ℕ} {at d : ℕ} → at ≤ length s → Digit s at d → 9 < d → Short (count_at s at) s at (taken 1 at)
unfolding count_at
count_absent {s} {at} {d} in_s digit h = record { is = rw (← digit.is, lt-ltb 9 d h); after = omega arith; within = in_s; small = omega arith }

pub count_told : {s : List ℕ} {at d : ℕ} {r : Taken} → Digit s at d → d ≤ 9 → Short (short_at s at) s at r → Short (count_at s at) s at r
unfolding count_at
count_told {s} {at} {d} {r} digit h short = rw (← digit.is, le-ltb 9 d h) short

-- ---- sized
module _ {s : List ℕ} {at letter b : ℕ} (first : Seen s at letter) (second : Seen s (at + 1) b) where
  pub sized_bare : at < length s → (b ≡ 40 → ⊥) → Primitive (sized_at s at) s (taken letter (at + 1))
  unfolding sized_at
  sized_bare in_s h = record { is = rw (← second.is, ne_eqb b 40 h, first.is); within = omega arith }

  pub sized_zero : {size : Taken} → b ≡ 40 → Short (short_at s (at + 2)) s (at + 2) size → size.value < 1 → Primitive (sized_at s at) s (taken 0 0)
  unfolding sized_at closed
  sized_zero {size} h short z = record { is = rw (← second.is, eq-eqb b 40 h, ← short.is, lt-leb 1 size.value z); within = omega arith }

  pub sized_open : {size : Taken} {m : ℕ} → b ≡ 40 → Short (short_at s (at + 2)) s (at + 2) size → 1 ≤ size.value → Seen s size.next m → (m ≡ 41 → ⊥)
      → Primitive (sized_at s at) s (taken 0 0)
  unfolding sized_at closed
  sized_open {size} {m} h short some mark no_end =
      record { is = rw (← second.is, eq-eqb b 40 h, ← short.is, le-leb 1 size.value some, ← mark.is, ne_eqb m 41 no_end); within = omega arith }

  pub sized_closed : {size : Taken} {m : ℕ} → b ≡ 40 → Short (short_at s (at + 2)) s (at + 2) size → 1 ≤ size.value → Seen s size.next m → m ≡ 41
      → Primitive (sized_at s at) s (taken (letter + 256 * size.value) (size.next + 1))
  unfolding sized_at closed
  sized_closed {size} {m} h short some mark end =
      let z = mark.inside in
      record { is = rw (← second.is, eq-eqb b 40 h, ← short.is, le-leb 1 size.value some, ← mark.is, eq-eqb m 41 end, first.is); within = omega arith }

-- ---- binary
counts_most : (d : ℕ) → counts d ≡ true → d ≤ 9
unfolding counts
counts_most d h =
    ⊎_elim (λ (l : d ≤ 9). l)
    (λ (l : 9 < d). absurd (let z : ◌≡◌ {A = ℕ} 0 1 = let no : (leb 1 d && leb d 9) ≡ false = rw (le-leb 1 d (omega arith), lt-leb d 9 l) in cc in omega arith)) (le_or_lt d 9)

module _ {s : List ℕ} (at : ℕ) {t o : ℕ} {a : Bool} (tens : Digit s (at + 1) t) (ones : Digit s (at + 2) o) (first : a ≡ counts t) where
  pub binary_tens : a ≡ false → Primitive (binary_at s at) s (taken 0 0)
  unfolding binary_at
  binary_tens h = record { is = rw (← tens.is, sym first ∙ h); within = omega arith }

  pub binary_ones : {b : Bool} → a ≡ true → b ≡ counts o → b ≡ false → Primitive (binary_at s at) s (taken 0 0)
  unfolding binary_at
  binary_ones {b} h second k = record { is = rw (← tens.is, ← ones.is, sym first ∙ h, sym second ∙ k); within = omega arith }

  pub binary_both : {b : Bool} → a ≡ true → b ≡ counts o → b ≡ true → Primitive (binary_at s at) s (taken (98 + 256 * (t * 10 + o)) (at + 3))
  unfolding binary_at
  binary_both {b} h second k =
      let top = counts_most o (sym second ∙ k) in
      let z = ones.inside in
      record { is = rw (← tens.is, ← ones.is, sym first ∙ h, sym second ∙ k); within = omega arith }

-- ---- primitive
pub letter_some : (b : ℕ) (r : Bool) → r ≡ is_letter b → r ≡ true → 0 < b
unfolding is_letter
letter_some b r e h =
    ⊎_elim (λ (z : b ≤ 0). absurd (let y : b ≡ 0 = omega arith in let x : ◌≡◌ {A = ℕ} 0 1 = let no : r ≡ false = rw y at e in cc in omega arith)) (λ (z : 0 < b). z) (le_or_lt b 0)

module _ {s : List ℕ} {at b : ℕ} (seen : Seen s at b) where
  pub primitive_binary : {r : Taken} → b ≡ 98 → Primitive (binary_at s at) s r → Primitive (primitive_at s at) s r
  unfolding primitive_at
  primitive_binary h p = rw (← seen.is, eq-eqb b 98 h) p

  pub primitive_sized : {l : Bool} {r : Taken} → (b ≡ 98 → ⊥) → l ≡ is_letter b → l ≡ true → Primitive (sized_at s at) s r → Primitive (primitive_at s at) s r
  unfolding primitive_at
  primitive_sized h e is p = rw (← seen.is, ne_eqb b 98 h, ← e, is) p

  pub primitive_none : {l : Bool} → (b ≡ 98 → ⊥) → l ≡ is_letter b → l ≡ false → Primitive (primitive_at s at) s (taken 0 0)
  unfolding primitive_at
  primitive_none h e is = record { is = rw (← seen.is, ne_eqb b 98 h, ← e, is); within = omega arith }

-- ---- lists of primitives
pub written_nothing : {f : Form} {r : Formats} (n : ℕ) → f ≡ broken → r ≡ nothing → Written f n r
written_nothing {f} {r} n none e =
    rw (e, none) (record { is = refl; fills = record { wide = refl; few = omega arith; rest = refl }; within = omega arith })

pub filled_nothing : {r : Formats} → r ≡ nothing → Filled r
filled_nothing {r} e = rw e (record { wide = refl; few = omega arith; rest = refl })

pub items_long : {f : Formats} → Filled f → length (take f.count f.items) ≡ f.count
items_long {f} fills = let few = fills.few in let wide = fills.wide in length-take-le f.count f.items (omega arith)

-- ---- alone
module _ {s : List ℕ} (at : ℕ) {p : Taken} (told : Primitive (primitive_at s at) s p) where
  pub alone_none : {r : Formats} → p.value ≡ 0 → r ≡ nothing → Written (single (primitive_at s at)) (length s) r
  unfolding single
  alone_none h e = written_nothing (length s) (rw (← told.is, eq-eqb p.value 0 h)) e

  pub alone_some : (p.value ≡ 0 → ⊥) → Written (single (primitive_at s at)) (length s) (record { items = set (replicate 32 0) 0 p.value; count = 1; end = p.next })
  unfolding single
  alone_some h =
      rw (← told.is, ne_eqb p.value 0 h)
      (record { is = refl; fills = record { wide = refl; few = omega arith; rest = refl }; within = told.within })

-- ---- add: the part stands behind what is led, and all behind it is as it was
put_long : (a k : ℕ) (xs ys : List ℕ) → a + k ≤ length xs → length ys ≡ k → length (put_mid a k xs ys) ≡ length xs
put_long a k xs ys fit e = same_len_mid a k xs ys (e ∙ sym (length-take-le k (drop a xs) (rw length-drop (omega arith))))

module _ {led part : Formats} (one : Filled led) (two : Filled part) (room : led.count + part.count ≤ 32) (ys : List ℕ) (same : ys ≡ take part.count part.items) where
  abbrev items : List ℕ
  items = put_mid led.count (led.count + part.count - led.count) led.items ys

  few : led.count ≤ length led.items
  few = let wide = one.wide in omega arith

  long : length ys ≡ led.count + part.count - led.count
  long = let l = items_long two in omega (arith, ap length same)

  added_front : take (led.count + part.count) items ≡ take led.count led.items ++ take part.count part.items
  added_front = take-put_mid led.count (led.count + part.count - led.count) led.items ys (led.count + part.count) (let l = long in omega arith) few ∙ rw same

  added_rest : drop (led.count + part.count) items ≡ replicate (32 - (led.count + part.count)) 0
  added_rest =
      let left : 32 - led.count - part.count ≡ 32 - (led.count + part.count) = omega arith in
      let past = drop-put_mid led.count (led.count + part.count - led.count) led.items ys (led.count + part.count) (omega arith) few long in
      rw (past, ← drop-drop part.count led.count led.items, one.rest, drop-replicate {X = ℕ} part.count (32 - led.count) 0, left)

  added_wide : length items ≡ 32
  added_wide = put_long led.count (led.count + part.count - led.count) led.items ys (let wide = one.wide in omega arith) long ∙ one.wide

  pub added : (end : ℕ) → Written (form (take led.count led.items ++ take part.count part.items) end) end (record { items = items; count = led.count + part.count; end = end })
  added end = record { is = rw added_front; fills = record { wide = added_wide; few = room; rest = added_rest }; within = omega arith }

-- ---- repeat
pub repeat_room : (from k times n : ℕ) → k < times → from + times * n ≤ 32 → from + k * n + n ≤ 32
repeat_room from k times n h room =
    let more : suc k ≤ times = omega arith in
    let up : suc k * n ≤ times * n = mul-le-mul_right n more in
    let step : suc k * n ≡ k * n + n = suc-mul k n in
    omega arith

repeated_next : (j i : ℕ) (xs : List ℕ) → j ≡ suc i → repeated j xs ≡ xs ++ repeated i xs
unfolding repeated
repeated_next j i xs e = rw e

-- what is led with all repeats is what stands now with those left
pub record Repeating (led : Formats) (times : ℕ) (part all : Formats) (k : ℕ) : Type 0 where
  pub fills : Filled all
  pub counted : all.count ≡ led.count + k * part.count
  pub so : take led.count led.items ++ repeated times (take part.count part.items) ≡ take all.count all.items
      ++ repeated (times - k) (take part.count part.items)

pub repeating_start : {led : Formats} (times : ℕ) (part : Formats) → Filled led → Repeating led times part led 0
repeating_start {led} times part fills = record { fills = fills; counted = omega arith; so = rw (sub-zero times) }

pub repeating_room : {led part all : Formats} {times k : ℕ} → Repeating led times part all k → k < times → led.count + times * part.count ≤ 32 → all.count + part.count ≤ 32
repeating_room {led} {part} {all} {times} {k} so h room = let z = repeat_room led.count k times part.count h room in let y = so.counted in omega arith

pub repeating_next : {led part all next : Formats} {times k : ℕ} → Repeating led times part all k → k < times
    → Written (form (take all.count all.items ++ take part.count part.items) part.end) part.end next → next.count ≡ all.count + part.count
    → Repeating led times part next (k + 1)
repeating_next {led} {part} {all} {next} {times} {k} so h told counted =
    let xs = take part.count part.items in
    let step : suc k * part.count ≡ k * part.count + part.count = suc-mul k part.count in
    let front : take next.count next.items ≡ take all.count all.items ++ xs = ap (λ (f : Form). f.items) told.is in
    record {
      fills = told.fills;
      counted = let y = so.counted in rw (add-one k, step) (omega arith);
      so = so.so ∙ rw (repeated_next (times - k) (times - (k + 1)) xs (omega arith), front)
          (sym (append_assoc (take all.count all.items) xs (repeated (times - (k + 1)) xs)));
    }

pub repeating_all : {led part all : Formats} {times k : ℕ} → Repeating led times part all k → times ≤ k
    → Written (form (take led.count led.items ++ repeated times (take part.count part.items)) part.end) part.end
    (record { items = all.items; count = all.count; end = part.end })
unfolding repeated
repeating_all {led} {part} {all} {times} {k} so h =
    let xs = take part.count part.items in
    let z : times - k ≡ 0 = omega arith in
    let last : take led.count led.items ++ repeated times xs ≡ take all.count all.items = (rw z at so.so) ∙ append-nil (take all.count all.items) in
    record { is = rw last; fills = record { wide = so.fills.wide; few = so.fills.few; rest = so.fills.rest }; within = omega arith }

-- ---- join
pub few_times : (k n : ℕ) → k ≤ 99 → n ≤ 32 → k * n ≤ 3168
few_times k n h l = let z : k * n ≤ 99 * n = mul-le-mul_right n h in omega arith

module _ (led part : Formats) {r : Formats} (times : ℕ) (empty : r ≡ nothing) where
  pub join_none : part.end ≡ 0 → Written (joined (forms_of led).items times (forms_of part)) part.end r
  unfolding joined
  join_none h = written_nothing part.end (rw (eq-eqb part.end 0 h)) empty

  pub join_zero : (part.end ≡ 0 → ⊥) → times < 1 → Written (joined (forms_of led).items times (forms_of part)) part.end r
  unfolding joined
  join_zero h z = written_nothing part.end (rw (ne_eqb part.end 0 h, lt-leb 1 times z)) empty

  pub join_over : (part.end ≡ 0 → ⊥) → 1 ≤ times → 99 < times → Written (joined (forms_of led).items times (forms_of part)) part.end r
  unfolding joined
  join_over h some z = written_nothing part.end (rw (ne_eqb part.end 0 h, le-leb 1 times some, lt-leb times 99 z)) empty

  pub join_long : Filled led → Filled part → (part.end ≡ 0 → ⊥) → 1 ≤ times → times ≤ 99 → 32 < led.count + times * part.count
      → Written (joined (forms_of led).items times (forms_of part)) part.end r
  unfolding joined
  join_long one two h some few z =
      written_nothing part.end
      (rw (ne_eqb part.end 0 h, le-leb 1 times some, le-leb times 99 few, items_long one, items_long two, lt-leb (led.count + times * part.count) 32 z)) empty

pub join_all : {led part r : Formats} (times : ℕ) → Filled led → Filled part → (part.end ≡ 0 → ⊥) → 1 ≤ times → times ≤ 99 → led.count + times * part.count ≤ 32
    → Written (form (take led.count led.items ++ repeated times (take part.count part.items)) part.end) part.end r
    → Written (joined (forms_of led).items times (forms_of part)) part.end r
unfolding joined
join_all {led} {part} {r} times one two h some few z told =
    rw (ne_eqb part.end 0 h, le-leb 1 times some, le-leb times 99 few, items_long one, items_long two, le-leb (led.count + times * part.count) 32 z) told

-- ---- item
pub item_list : {s : List ℕ} {at b : ℕ} {inner : Formats} → Seen s at b → b ≡ 40 → Filled inner → inner.end ≤ length s → Written (item_at (forms_of inner) s at) (length s) inner
unfolding item_at
item_list {s} {at} {b} {inner} seen h fills within = rw (← seen.is, eq-eqb b 40 h) (record { is = refl; fills = fills; within = within })

pub item_alone : {s : List ℕ} {at b : ℕ} (inner : Formats) {r : Formats} → Seen s at b → (b ≡ 40 → ⊥) → Written (single (primitive_at s at)) (length s) r
    → Written (item_at (forms_of inner) s at) (length s) r
unfolding item_at
item_alone {s} {at} {b} inner {r} seen h told = rw (← seen.is, ne_eqb b 40 h) told

-- ---- list
pub list_zero : (s : List ℕ) (at levels : ℕ) → levels ≡ 0 → list_at levels s at ≡ broken
unfolding list_at
list_zero s at levels h = rw h

pub list_more : (s : List ℕ) (at levels n : ℕ) → levels ≡ suc n → list_at levels s at ≡ cond (eqb (byte_at s at) 40) (items_from (list_at n) 32 s (at + 1) []) broken
unfolding list_at
list_more s at levels n h = rw h

above_zero : (n : ℕ) → (n ≡ 0 → ⊥) → n ≡ suc (n - 1)
above_zero n h = omega arith

pub items_next : (inner : List ℕ → ℕ → Form) (n m : ℕ) (s : List ℕ) (i : ℕ) (led : List ℕ) → n ≡ suc m
    → items_from inner n s i led ≡ followed (items_from inner m s) s (joined led (count_at s i).value (item_at (inner s (count_at s i).next) s (count_at s i).next))
unfolding items_from
items_next inner n m s i led e = rw e

pub items_none : (inner : List ℕ → ℕ → Form) (n : ℕ) (s : List ℕ) (i : ℕ) (led : List ℕ) → n ≡ 0 → items_from inner n s i led ≡ broken
unfolding items_from
items_none inner n s i led e = rw e

pub list_none : (s : List ℕ) {r : Formats} (at levels : ℕ) → levels ≡ 0 → r ≡ nothing → Written (list_at levels s at) (length s) r
list_none s {r} at levels h e = written_nothing (length s) (list_zero s at levels h) e

pub list_shut : {s : List ℕ} {at b : ℕ} {r : Formats} (levels : ℕ) → (levels ≡ 0 → ⊥) → Seen s at b → (b ≡ 40 → ⊥) → r ≡ nothing → Written (list_at levels s at) (length s) r
list_shut {s} {at} {b} {r} levels some seen h e =
    written_nothing (length s) (list_more s at levels (levels - 1) (above_zero levels some) ∙ rw (← seen.is, ne_eqb b 40 h)) e

-- a list under way: what it is from the start is what the items from here on make of it
pub record Listing (s : List ℕ) (at levels : ℕ) (led : Formats) (from turn : ℕ) : Type 0 where
  pub within : from ≤ length s
  pub fills : Filled led
  pub so : list_at levels s at ≡ items_from (list_at (levels - 1)) (32 - turn) s from (take led.count led.items)

pub list_start : {s : List ℕ} {at b levels : ℕ} {led : Formats} → (levels ≡ 0 → ⊥) → Seen s at b → b ≡ 40 → led ≡ nothing → Listing s at levels led (at + 1) 0
list_start {s} {at} {b} {levels} {led} some seen h e =
    let z = seen.inside in
    record {
      within = omega arith;
      fills = filled_nothing e;
      so = list_more s at levels (levels - 1) (above_zero levels some) ∙ rw (← seen.is, eq-eqb b 40 h, e);
    }

pub list_over : {s : List ℕ} {at levels from turn : ℕ} {led r : Formats} → Listing s at levels led from turn → 32 ≤ turn → r ≡ nothing → Written (list_at levels s at) (length s) r
list_over {s} {at} {levels} {from} {turn} {led} {r} here past e =
    written_nothing (length s) (here.so ∙ items_none (list_at (levels - 1)) (32 - turn) s from (take led.count led.items) (omega arith)) e

-- a turn: the item is read, and joined to what is led
module _ {s : List ℕ} {at levels from turn : ℕ} {led inner part next : Formats} {times : Taken}
    (here : Listing s at levels led from turn) (more : turn < 32) (count : Short (count_at s from) s from times)
    (inside : Written (list_at (levels - 1) s times.next) (length s) inner) (item : Written (item_at (forms_of inner) s times.next) (length s) part)
    (join : Written (joined (forms_of led).items times.value (forms_of part)) part.end next) where
  turned : list_at levels s at ≡ followed (items_from (list_at (levels - 1)) (32 - (turn + 1)) s) s (forms_of next)
  turned =
      here.so ∙ items_next (list_at (levels - 1)) (32 - turn) (32 - (turn + 1)) s from (take led.count led.items) (omega arith)
      ∙ rw (← count.is, ← inside.is, ← item.is, ← join.is)

  pub turn_none : {r : Formats} → next.end ≡ 0 → r ≡ nothing → Written (list_at levels s at) (length s) r
  unfolding followed
  turn_none h e = written_nothing (length s) (turned ∙ rw (eq-eqb next.end 0 h)) e

  module _ {m : ℕ} (some : next.end ≡ 0 → ⊥) (mark : Seen s next.end m) where
    pub turn_closed : m ≡ 41 → Written (list_at levels s at) (length s) (record { items = next.items; count = next.count; end = next.end + 1 })
    unfolding followed
    turn_closed h =
        let z = mark.inside in
        let is : list_at levels s at ≡ form (take next.count next.items) (next.end + 1) = turned ∙ rw (ne_eqb next.end 0 some, ← mark.is, eq-eqb m 41 h) in
        record { is = sym is; fills = record { wide = join.fills.wide; few = join.fills.few; rest = join.fills.rest }; within = omega arith }

    pub turn_open : {r : Formats} → (m ≡ 41 → ⊥) → (m ≡ 44 → ⊥) → r ≡ nothing → Written (list_at levels s at) (length s) r
    unfolding followed
    turn_open h k e = written_nothing (length s) (turned ∙ rw (ne_eqb next.end 0 some, ← mark.is, ne_eqb m 41 h, ne_eqb m 44 k)) e

    pub turn_further : (m ≡ 41 → ⊥) → m ≡ 44 → Listing s at levels next (next.end + 1) (turn + 1)
    unfolding followed
    turn_further h k =
        let z = mark.inside in
        record { within = omega arith; fills = join.fills; so = turned ∙ rw (ne_eqb next.end 0 some, ← mark.is, ne_eqb m 41 h, eq-eqb m 44 k) }

-- ---- same_formats
take_used : (k : ℕ) (xs : List ℕ) → take (length (take k xs)) xs ≡ take k xs
take_used zero xs = refl
take_used (suc k) [] = refl
take_used (suc k) (x ∷ xs) = ap (λ (l : List ℕ). x ∷ l) (take_used k xs)

pub formats_same : (xs ys : List ℕ) (k m n o : ℕ) → n ≡ length (take k xs) → o ≡ length (take m ys) → pointwise eqb (take n xs) (take o ys) ≡ same_list (take k xs) (take m ys)
formats_same xs ys k m n o first second = rw (first, second, take_used k xs, take_used m ys) (same_pointwise (take k xs) (take m ys))
