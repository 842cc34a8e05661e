-- What is written of a record whose bytes are those of the held form: its leader as far as the digit sizes, all behind that as it stands, the running
-- number over the one that stood there. Assumes nothing.
use Prim.Native.Nat.{ℕ, suc, ◌+◌, ◌-◌, ◌*◌, ◌≤◌, ◌<◌}
use mathlib.Core.List.{List, [], ◌∷◌, ◌++◌, append_assoc}
use mathlib.Core.Path.{◌≡◌, refl, sym, ap, ◌∙◌}
use native.Mathlib.Omega.{arith}
use lib.ListN.{length, take, drop, length-append}
use Rattle.octets.specs.Number.{byte_at, bytes_of}
use Rattle.octets.specs.Digits.{digits_of}
use Rattle.octets.specs.Area.{Wrote}
use Rattle.octets.proofs.AreaLaws.{wrote_join, wrote_as, wrote_length}
use Rattle.octets.proofs.NumberLaws.{bytes_length}
use Rattle.octets.proofs.DigitsLaws.{digits_length}
use Rattle.iso8211.specs.Leader.{base_at, length_digits, position_digits}
use Rattle.iso8211.specs.Directory.{row_width}
use Rattle.iso8211.specs.Field.{count_at, directory_at}
use Rattle.items.specs.Premises.{LaidOut}
use Rattle.records.specs.Written.{rows_bytes, leader_of, head_over}
use Rattle.asheld.specs.Held.{Held, long_of, base_of, front_of, whole_of, held_bytes}
use Rattle.asheld.proofs.PartLaws.{join, part_long, part_more, wrote_over}
use Rattle.asheld.proofs.RowLaws.{rows_back, rows_room, row_sure, row_fits}

-- ---- the leader, as far as the digit sizes
module _ {a b : List ℕ} {at m : ℕ} (v : ℕ) (w : Wrote a at (digits_of 5 v) b m) where
  pub long_room : at + 12 ≤ length a → m + 7 ≤ length b
  long_room h = omega (arith, w.end, wrote_length w, digits_length 5 v)

  pub base_room : at + 8 ≤ length a → m + 3 ≤ length b
  base_room h = omega (arith, w.end, wrote_length w, digits_length 5 v)

  module _ {d : List ℕ} {r : ℕ} where
    pub long_put : Wrote b m (32 ∷ 68 ∷ 32 ∷ 32 ∷ 32 ∷ 32 ∷ 32 ∷ []) d r → Wrote a at (long_of v) d r
    unfolding long_of
    long_put x = wrote_join w x

    pub long_end : Wrote b m (32 ∷ 68 ∷ 32 ∷ 32 ∷ 32 ∷ 32 ∷ 32 ∷ []) d r → r ≡ at + 12
    long_end x = omega (arith, w.end, x.end, digits_length 5 v)

    pub base_put : Wrote b m (32 ∷ 32 ∷ 32 ∷ []) d r → Wrote a at (base_of v) d r
    unfolding base_of
    base_put x = wrote_join w x

    pub base_end : Wrote b m (32 ∷ 32 ∷ 32 ∷ []) d r → r ≡ at + 8
    base_end x = omega (arith, w.end, x.end, digits_length 5 v)

module _ {a b d : List ℕ} {at m r : ℕ} (size base : ℕ) (v : Wrote a at (long_of size) b m) (w : Wrote b m (base_of base) d r) where
  pub front_put : Wrote a at (front_of size base) d r
  unfolding front_of
  front_put = wrote_join v w

-- ---- and all behind that
module _ (s : List ℕ) (at base size : ℕ) {a b : List ℕ} {place m : ℕ} (v : Wrote a place (front_of size base) b m) (led : m ≡ place + 20) where
  same : at + size - (at + 20) ≡ size - 20
  same = omega arith

  pub whole_room : 20 ≤ size → at + size ≤ length s → place + size ≤ length a → m + length (take (at + size - (at + 20)) (drop (at + 20) s)) ≤ length b
  whole_room low fits room = rw same (omega (arith, part_long s (at + 20) (size - 20) (omega arith), wrote_length v))

  pub whole_put : {d : List ℕ} {r : ℕ} → Wrote b m (take (at + size - (at + 20)) (drop (at + 20) s)) d r → Wrote a place (whole_of s at base size) d r
  unfolding whole_of
  whole_put x = wrote_join v (wrote_as (take (size - 20) (drop (at + 20) s)) (ap (λ (k : ℕ). take k (drop (at + 20) s)) same) x)

-- ---- the whole record
module _ (s : List ℕ) (at size : ℕ) (laid : LaidOut s at) (held : Held s at size) where
  pub held_fits : at + size ≤ length s
  held_fits =
      let two = laid.two in
      let long = held.long in
      omega (arith, row_fits s at laid (count_at s at - 1) (omega arith))

  pub base_low : 25 ≤ base_at s at
  base_low = let low = laid.inside.headed.low in omega arith

  module _ (small : (i : ℕ) → byte_at s i < 256) where
    -- the digit sizes, "04", the directory and its 1E
    behind : (48 + length_digits s at) ∷ (48 + position_digits s at) ∷ 48 ∷ 52 ∷ (rows_bytes (length_digits s at) (position_digits s at) (directory_at s at) ++ (30 ∷ []))
        ≡ take (base_at s at - 20) (drop (at + 20) s)
    unfolding directory_at
    behind =
        let base = base_at s at in
        let n = count_at s at in
        let w = row_width (length_digits s at) (position_digits s at) in
        let led = laid.inside.headed.led in
        let l_low = led.l_low in
        let p_low = led.p_low in
        let room = laid.inside.headed.room in
        let sum = rows_room s at laid in
        let closing : 30 ∷ [] ≡ take 1 (drop (at + base - 1) s) = part_more s (at + base - 1) (at + base) 0 30 (omega (arith, base_low)) held.closed.closing
        (omega (arith, base_low)) in
        let rows_are = rows_back s small n (length_digits s at) (position_digits s at) (at + 24) (row_sure s at laid) (omega arith) in
        let count : base - 20 ≡ suc (suc (suc (suc (n * w + 1)))) = omega arith in
        rw (rows_are, closing, join s (at + 24) (at + base - 1) (n * w) 1 (omega arith) (omega arith), count)
        (ap (λ (k : List ℕ). (48 + length_digits s at) ∷ (48 + position_digits s at) ∷ 48 ∷ k)
        (part_more s (at + 23) (at + 24) (n * w + 1) 52 (omega arith) held.closed.four (omega arith))
        ∙ ap (λ (k : List ℕ). (48 + length_digits s at) ∷ (48 + position_digits s at) ∷ k)
        (part_more s (at + 22) (at + 23) (suc (n * w + 1)) 48 (omega arith) held.closed.nought (omega arith))
        ∙ ap (λ (k : List ℕ). (48 + length_digits s at) ∷ k)
        (part_more s (at + 21) (at + 22) (suc (suc (n * w + 1))) (48 + position_digits s at) (omega arith) (omega arith) (omega arith))
        ∙ part_more s (at + 20) (at + 21) (suc (suc (suc (n * w + 1)))) (48 + length_digits s at) (omega arith) (omega arith) (omega arith))

    head_back : head_over size (base_at s at) (length_digits s at) (position_digits s at) (directory_at s at)
        ≡ front_of size (base_at s at) ++ take (base_at s at - 20) (drop (at + 20) s)
    unfolding head_over leader_of front_of long_of base_of digits_of
    head_back = ap (λ (k : List ℕ). front_of size (base_at s at) ++ k) behind

    front_long : (base : ℕ) → length (front_of size base) ≡ 20
    unfolding front_of long_of base_of digits_of
    front_long base = refl

    module _ {a d e : List ℕ} {place end z base : ℕ} (number : ℕ) (is : base ≡ base_at s at) (some : base + 2 ≤ size)
        (x : Wrote a place (whole_of s at base size) d end) (y : Wrote d (place + base) (bytes_of 2 number) e z) where
      abbrev front : List ℕ
      front = front_of size base

      abbrev old : List ℕ
      old = take 2 (drop (at + base) s)

      abbrev rest : List ℕ
      rest = take (size - (base + 2)) (drop (at + base + 2) s)

      cut : take (size - 20) (drop (at + 20) s) ≡ take (base - 20) (drop (at + 20) s) ++ (old ++ rest)
      cut =
          let two : take 2 (drop (at + base) s) ++ take (size - (base + 2)) (drop (at + base + 2) s) ≡ take (2 + (size - (base + 2))) (drop (at + base) s) =
          join s (at + base) (at + base + 2) 2 (size - (base + 2)) refl (omega (arith, held_fits)) in
          let all : base - 20 + (2 + (size - (base + 2))) ≡ size - 20 = omega (arith, base_low) in
          sym (ap (λ (k : List ℕ). take (base - 20) (drop (at + 20) s) ++ k) two
          ∙ join s (at + 20) (at + base) (base - 20) (2 + (size - (base + 2))) (omega (arith, base_low)) (omega (arith, held_fits))
          ∙ ap (λ (k : ℕ). take k (drop (at + 20) s)) all)

      head_long : length (front ++ take (base - 20) (drop (at + 20) s)) ≡ base
      head_long =
          rw (length-append, front_long base, part_long s (at + 20) (base - 20) (omega (arith, held_fits, base_low))) (omega (arith, base_low))

      pub held_put : Wrote a place (held_bytes number s at size) e end
      unfolding held_bytes whole_of
      held_put =
          let head = front ++ take (base - 20) (drop (at + 20) s) in
          let whole : Wrote a place (head ++ (old ++ rest)) d end =
          wrote_as (head ++ (old ++ rest)) (ap (λ (k : List ℕ). front ++ k) cut ∙ sym (append_assoc front (take (base - 20) (drop (at + 20) s)) (old ++ rest)))
          x in
          let there : Wrote d (place + length head) (bytes_of 2 number) e z = rw head_long y in
          let over : Wrote a place (head ++ (bytes_of 2 number ++ rest)) e end =
          wrote_over head old (bytes_of 2 number) rest whole there (part_long s (at + base) 2 (omega (arith, held_fits)) ∙ sym (bytes_length 2 number)) in
          wrote_as _ (rw is (ap (λ (k : List ℕ). k ++ (bytes_of 2 number ++ take (size - (base_at s at + 2)) (drop (at + base_at s at + 2) s))) (sym head_back))) over
