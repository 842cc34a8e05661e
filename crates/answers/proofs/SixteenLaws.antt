-- Laws of the answer of 16 bytes. Assumes nothing.
use Prim.Native.Nat.{ℕ, ◌+◌, ◌/◌, ◌%◌, ◌≤◌}
use mathlib.Core.List.{List, [], append-nil}
use mathlib.Core.Path.{◌≡◌, refl, ap, ◌∙◌}
use native.Mathlib.Omega.{arith}
use lib.ListN.{length, drop, drop_of_length-le}
use borrow.Author.Tests.{ne_eqb}
use Rattle.octets.specs.Number.{bytes_of}
use Rattle.octets.specs.Area.{Wrote}
use Rattle.octets.proofs.AreaLaws.{wrote_join, wrote_as, wrote_whole, wrote_length}
use Rattle.octets.proofs.NumberLaws.{wrote_to}
use Rattle.answers.specs.declared.answer.Answer.{Answer}
use Rattle.answers.specs.Sixteen.{answer_bytes, answer_area}

-- ---- the low four bytes of a number are those of its rest
rest_over : (v : ℕ) → (v % 4294967296 / 256 ≡ v / 256 % 16777216) × (v % 16777216 / 256 ≡ v / 256 % 65536) × (v % 65536 / 256 ≡ v / 256 % 256)
rest_over v = (omega arith, omega arith, omega arith)

rest_low : (v : ℕ) → (v % 4294967296 % 256 ≡ v % 256) × (v % 16777216 % 256 ≡ v % 256) × (v % 65536 % 256 ≡ v % 256) × (v % 256 % 256 ≡ v % 256)
rest_low v = (omega arith, omega arith, omega arith, omega arith)

low_bytes : (v : ℕ) → bytes_of 4 (v % 4294967296) ≡ bytes_of 4 v
unfolding bytes_of
low_bytes v =
    let a = (rest_over v).0 in
    let b = (rest_over (v / 256)).1 in
    let c = (rest_over (v / 256 / 256)).2 in
    rw ((rest_low v).0, a, (rest_low (v / 256)).1, b, (rest_low (v / 256 / 256)).2, c, (rest_low (v / 256 / 256 / 256)).3)

pub put_low : {a b : List ℕ} {at r : ℕ} (v : ℕ) → Wrote a at (bytes_of 4 (v % 4294967296)) b r → Wrote a at (bytes_of 4 v) b r
put_low v so = wrote_as (bytes_of 4 v) (low_bytes v) so

pub answer_other : (area : List ℕ) (a : Answer) → (length area ≡ 16 → ⊥) → area ≡ answer_area area a
unfolding answer_area
answer_other area a ne = rw (ne_eqb (length area) 16 ne)

-- ---- room for the second, third and fourth number
module _ (area b : List ℕ) (p x : ℕ) (long : length area ≡ 16) (one : Wrote area 0 (bytes_of 4 x) b p) where
  pub room_second : p + 4 ≤ length b
  room_second = omega (arith, wrote_to 4 x one, wrote_length one)

  module _ (c : List ℕ) (q y : ℕ) (two : Wrote b p (bytes_of 4 y) c q) where
    pub room_third : q + 4 ≤ length c
    room_third = omega (arith, wrote_to 4 x one, wrote_length one, wrote_to 4 y two, wrote_length two)

    pub room_fourth : (d : List ℕ) (r z : ℕ) → Wrote c q (bytes_of 4 z) d r → r + 4 ≤ length d
    room_fourth d r z three = omega (arith, wrote_to 4 x one, wrote_length one, wrote_to 4 y two, wrote_length two, wrote_to 4 z three, wrote_length three)

module _ {area b c d e : List ℕ} {p q r t : ℕ} (a : Answer) (long : length area ≡ 16)
    (one : Wrote area 0 (bytes_of 4 a.code) b p) (two : Wrote b p (bytes_of 4 a.file) c q)
    (three : Wrote c q (bytes_of 4 a.index) d r) (four : Wrote d r (bytes_of 4 a.number) e t) where
  all_put : Wrote area 0 (answer_bytes a) e t
  unfolding answer_bytes
  all_put = wrote_join one (wrote_join two (wrote_join three four))

  answer_long : length (answer_bytes a) ≡ 16
  unfolding answer_bytes bytes_of
  answer_long = refl

  pub answer_put : e ≡ answer_area area a
  unfolding answer_area
  answer_put =
      let end = all_put.end in
      let last : drop t area ≡ [] = drop_of_length-le area {i = t} (omega (arith, answer_long)) in
      rw long (wrote_whole all_put ∙ rw last (append-nil (answer_bytes a)))

-- ---- of an answer that is told to be another

pub told_area : (area e : List ℕ) (a b : Answer) → a ≡ b → e ≡ answer_area area a → e ≡ answer_area area b
told_area area e a b is so = so ∙ ap (answer_area area) is
