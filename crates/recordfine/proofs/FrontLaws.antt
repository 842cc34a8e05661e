-- Laws of the first rows of a record, whose numbers are compared. Assumes nothing.
use Prim.Native.Nat.{ℕ, suc, ◌+◌, ◌-◌, ◌*◌, ◌/◌, ◌%◌, ◌≤◌, ◌<◌}
use mathlib.Core.Bool.{Bool, true, false, not}
use mathlib.Core.List.{List}
use mathlib.Core.Path.{◌≡◌, refl, sym, ◌∙◌}
use native.Mathlib.Nat.{mul-le-mul_right}
use native.Mathlib.Omega.{arith}
use lib.ListN.{length, take, drop, get_or, length-drop}
use lib.Seq.{length-take-le, take-take}
use lib.Dec.{eqb}
use borrow.Author.Tests.{eqb-true, eqb-false, not-true, not-false}
use Rattle.octets.specs.Number.{byte_at, num_at}
use Rattle.octets.specs.Premises.{Reads}
use Rattle.iso8211.specs.Directory.{tag_at}
use Rattle.iso8211.specs.Field.{count_at}
use Rattle.fieldfine.specs.Told.{content_in, groups_good}
use Rattle.fieldfine.specs.Place.{list_stands, PlainField}
use Rattle.fieldfine.proofs.PlaceLaws.{single_so, groups_so}
use Rattle.fieldfine.proofs.FieldLaws.{field_first, field_foid, field_sg2d, field_vrpt, field_plain}
use Rattle.recordfine.specs.declared.open.Open.{Open}
use Rattle.recordfine.specs.declared.front.Next.{Next}
use Rattle.recordfine.specs.Premises.{OpenAt}
use Rattle.recordfine.specs.Walk.{RowIn, SaysTold, RowIs, MarkedTold, FrontTold, Behind, past_first, past_vrid}
use Rattle.recordfine.proofs.DigitLaws.{zero_first, one_digit, two_digits}
use Rattle.recordfine.proofs.WalkLaws.{passed_start, passed_on, second_room, whole_rows}

never : {A : Type 0} → false ≡ true → A
never e = absurd (let z : ◌≡◌ {A = ℕ} 0 1 = cc in omega arith)

-- ---- a number that is compared
pub says_not : {s : List ℕ} {i n v : ℕ} → SaysTold s i n v false
says_not = record { told = λ e. never e }

pub says_two : {s : List ℕ} {i n v r : ℕ} → ((k : ℕ) → byte_at s k < 256) → v ≤ 99 → Reads s i 2 r → n ≡ 2
    → SaysTold s i n v (eqb r (12336 + v / 10 + 256 * (v % 10)))
says_two {s} {i} {n} {v} {r} below few read e = record { told = λ same. rw e (two_digits s i v r below few read (eqb-true _ _ same)) }

pub says_one : {s : List ℕ} {i n v r : ℕ} → v ≤ 9 → Reads s i 1 r → n ≡ 1 → SaysTold s i n v (eqb r (48 + v))
unfolding num_at
says_one {s} {i} {n} {v} {r} few read e = record {
  told = λ same.
      let is : r ≡ byte_at s i + 256 * 0 = read.is in
      let told : r ≡ 48 + v = eqb-true _ _ same in
      rw e (one_digit s i v (omega arith) few);
}

pub says_three : {s : List ℕ} {i n v q r : ℕ} → ((k : ℕ) → byte_at s k < 256) → v ≤ 99 → Reads s i 1 q → q ≡ 48 → Reads s (i + 1) 2 r → n ≡ 3
    → SaysTold s i n v (eqb r (12336 + v / 10 + 256 * (v % 10)))
unfolding num_at
says_three {s} {i} {n} {v} {q} {r} below few first zero read e = record {
  told = λ same.
      let is : q ≡ byte_at s i + 256 * 0 = first.is in
      rw e (zero_first 2 s i (omega arith) ∙ two_digits s (i + 1) v r below few read (eqb-true _ _ same));
}

-- ---- a row
pub is_not : {s : List ℕ} {i : ℕ} {h : Open} {tag due long : ℕ} → RowIs s i h tag due long false
is_not = record { tagged = λ e. never e; row = λ e. never e }

pub is_so : {s : List ℕ} {i : ℕ} {h : Open} {tag due long x t : ℕ} (a b : Bool) → t ≡ tag_at s i → t ≡ tag → SaysTold s (i + 4) h.lengths long a → not a ≡ false
    → SaysTold s (i + 4 + h.lengths) h.positions due b → not b ≡ false → 1 ≤ long → due + long ≤ h.end - h.body
    → x ≡ byte_at s (h.body + (due + long) - 1)
    → RowIs s i h tag due long (eqb x 30)
is_so a b read same length_is p place q some within last = record {
  tagged = λ e. sym same ∙ read;
  row = λ e. record {
    is = sym (length_is.told (not-false a p));
    place = place.told (not-false b q);
    some = some;
    within = within;
    ends = sym last ∙ eqb-true _ _ e;
  };
}

-- ---- a row whose kind is declared
pub marked_not : {marks s : List ℕ} {i : ℕ} {h : Open} {tag due long k : ℕ} → MarkedTold marks s i h tag due long k false
marked_not = record { is = is_not; declared = λ e. never e }

pub marked_so : {marks s : List ℕ} {i : ℕ} {h : Open} {tag due long k : ℕ} (x : ℕ) (a : Bool) → RowIs s i h tag due long a → not a ≡ false → x ≡ get_or marks k 0
    → MarkedTold marks s i h tag due long k (eqb x 1)
marked_so x a told p read =
    let so = not-false a p in
    record { is = record { tagged = λ e. told.tagged so; row = λ e. told.row so }; declared = λ e. sym read ∙ eqb-true _ _ e }

-- ---- a row and its field
pub front_not : {update : Bool} {stage : ℕ} {marks s : List ℕ} {i : ℕ} {h : Open} {prev tag due long k : ℕ} → FrontTold update stage marks s i h prev tag due long k false
front_not = record { is = is_not; fine = λ e. never e }

-- the content of a field of long bytes
inside : (s : List ℕ) (from long : ℕ) → from + long ≤ length s → content_in (take (from + long - from) (drop from s)) ≡ take (long - 1) (drop from s)
inside s from long fits =
    let e : from + long - from ≡ long = omega arith in
    let size : length (take long (drop from s)) ≡ long = length-take-le long (drop from s) (rw length-drop (omega arith)) in
    rw (e, size, take-take (long - 1) long (drop from s) (omega arith))

-- its values with rules: its content ends in the file, and is judged
pub content_end : {s : List ℕ} {i : ℕ} {h : Open} {tag due n : ℕ} (a : Bool) → RowIs s i h tag due (suc n) a → not a ≡ false → RowIn s i h → h.body + due + n ≤ length s
content_end a told p room =
    let within = (told.row (not-false a p)).within in
    let high = room.room in
    let fits = room.fits in
    omega arith

pub ruled_so : {update : Bool} {stage : ℕ} {marks s : List ℕ} {i : ℕ} {h : Open} {prev tag due long kind : ℕ} (k : ℕ) (a : Bool) → RowIs s i h tag due long a → not a ≡ false
    → RowIn s i h → PlainField update stage marks prev tag (take (h.body + due + (long - 1) - (h.body + due)) (drop (h.body + due) s)) k → ((k ≡ 20 → ⊥) → k ≡ kind)
    → FrontTold update stage marks s i h prev tag due long kind (not (eqb k 20))
ruled_so {s = s} {h = h} {due = due} {long = long} k a told p room fine is =
    let so = not-false a p in
    let within = (told.row so).within in
    let high = room.room in
    let fits = room.fits in
    let n : h.body + due + (long - 1) - (h.body + due) ≡ long - 1 = omega arith in
    record {
      is = record { tagged = λ e. told.tagged so; row = λ e. told.row so };
      fine = λ e. rw (inside s (h.body + due) long (omega arith)) (rw (n, is (eqb-false _ _ (not-true _ e))) at fine);
    }

-- ---- where the walk stands behind them
module _ {s : List ℕ} {at : ℕ} {h : Open} (o : OpenAt s at h) where
  two_rows : at + 24 + (4 + h.lengths + h.positions) < h.body - 1
  two_rows =
      let step : 2 * (4 + h.lengths + h.positions) ≤ count_at s at * (4 + h.lengths + h.positions) = mul-le-mul_right (4 + h.lengths + h.positions) o.two in
      omega (arith, whole_rows o)

  pub second_in : RowIn s (at + 24 + (4 + h.lengths + h.positions)) h
  second_in = record { row = second_room o; room = o.room; fits = o.fits; slim = o.slim }

  -- one row more
  behind_on : {update : Bool} {stage : ℕ} {marks : List ℕ} {n : Next} {tag long k : ℕ} {r : Bool} → Behind update stage marks s at h n → n.row < h.body - 1
      → FrontTold update stage marks s n.row h n.prev tag n.due long k r → r ≡ true → (k ≡ 20 → ⊥) → eqb n.prev k ≡ false
      → Behind update stage marks s at h (record { row = n.row + (4 + h.lengths + h.positions); prev = k; stamp = n.row; due = n.due + long })
  behind_on so less told r good apart =
      let row = told.is.row r in
      let some = row.some in
      record {
        passed = λ aall nall t.
            passed_on (so.passed aall nall t) o less (record { told = λ x. row }) (λ z. omega arith) (told.is.tagged r) (field_plain (told.fine r)) good (rw apart);
        within = row.within;
      }

  -- whose values have no rules: it is declared, and of that length
  behind_marked : {update : Bool} {stage : ℕ} {marks : List ℕ} {n : Next} {tag long k : ℕ} {r : Bool} → Behind update stage marks s at h n → n.row < h.body - 1
      → MarkedTold marks s n.row h tag n.due long k r → r ≡ true
      → ((c : List ℕ) → length c ≡ long - 1 → get_or marks k 0 ≡ 1 → PlainField update stage marks n.prev tag c k) → (k ≡ 20 → ⊥) → eqb n.prev k ≡ false
      → Behind update stage marks s at h (record { row = n.row + (4 + h.lengths + h.positions); prev = k; stamp = n.row; due = n.due + long })
  behind_marked {n = n} {long = long} so less told r field good apart =
      let within = (told.is.row r).within in
      let high = o.room in
      let fits = o.fits in
      let from = h.body + n.due in
      let size : length (content_in (take (from + long - from) (drop from s))) ≡ long - 1 =
      rw (inside s from long (omega arith)) (length-take-le (long - 1) (drop from s) (rw length-drop (omega arith))) in
      behind_on so less (record { is = told.is; fine = λ e. field _ size (told.declared e) }) r good apart

  pub behind_start : (update : Bool) (stage : ℕ) (marks : List ℕ) → Behind update stage marks s at h (record { row = at + 24; prev = 20; stamp = at; due = 0 })
  behind_start update stage marks = record { passed = λ aall nall t. passed_start update stage marks aall nall _ t o; within = omega arith }

  pub behind_first : {marks : List ℕ} (a : Bool) → MarkedTold marks s (at + 24) h 808464433 0 3 18 a → not a ≡ false
      → (update : Bool) (stage : ℕ) → Behind update stage marks s at h (past_first at h)
  behind_first {marks} a first p update stage =
      let less = two_rows in
      behind_marked (behind_start update stage marks) (omega arith) first (not-false a p) (λ c size m. field_first refl (single_so size refl m)) (λ z. omega arith) refl

  module _ {update : Bool} {stage : ℕ} {marks : List ℕ} (so : Behind update stage marks s at h (past_first at h)) (a : Bool) where
    pub behind_vrid : FrontTold update stage marks s (at + 24 + (4 + h.lengths + h.positions)) h 18 1448233284 3 9 3 a → not a ≡ false
        → Behind update stage marks s at h (past_vrid at h)
    behind_vrid told p = behind_on so two_rows told (not-false a p) (λ z. omega arith) refl

    module _ (told : FrontTold update stage marks s (at + 24 + (4 + h.lengths + h.positions)) h 18 1179797828 3 13 10 a) (p : not a ≡ false) where
      pub behind_frid : Behind update stage marks s at h
          (record { row = at + 24 + (4 + h.lengths + h.positions) + (4 + h.lengths + h.positions); prev = 10; stamp = at + 24 + (4 + h.lengths + h.positions); due = 16 })
      behind_frid = behind_on so two_rows told (not-false a p) (λ z. omega arith) refl

      pub behind_foid : (b : Bool) → at + 24 + (4 + h.lengths + h.positions) + (4 + h.lengths + h.positions) + (4 + h.lengths + h.positions) < h.body
          → MarkedTold marks s (at + 24 + (4 + h.lengths + h.positions) + (4 + h.lengths + h.positions)) h 1179601220 16 9 11 b → not b ≡ false
          → Behind update stage marks s at h (record {
            row = at + 24 + (4 + h.lengths + h.positions) + (4 + h.lengths + h.positions) + (4 + h.lengths + h.positions);
            prev = 11;
            stamp = at + 24 + (4 + h.lengths + h.positions) + (4 + h.lengths + h.positions);
            due = 25;
          })
      behind_foid b less foid q =
          behind_marked behind_frid (omega arith) foid (not-false b q) (λ c size m. field_foid refl refl (single_so size refl m)) (λ z. omega arith) refl

  module _ {marks : List ℕ} (b : Bool) (less : (past_vrid at h).row + (4 + h.lengths + h.positions) < h.body) where
    pub behind_sg2d : MarkedTold marks s (past_vrid at h).row h 1397174852 12 9 8 b → b ≡ true
        → (update : Bool) (stage : ℕ) → Behind update stage marks s at h (past_vrid at h)
        → Behind update stage marks s at h (record { row = (past_vrid at h).row + (4 + h.lengths + h.positions); prev = 8; stamp = (past_vrid at h).row; due = 21 })
    unfolding list_stands groups_good
    behind_sg2d told q update stage so =
        behind_marked so (omega arith) told q (λ c size m. field_sg2d refl (groups_so true (rw m) refl true (rw size) refl)) (λ z. omega arith) refl

    pub behind_vrpt : MarkedTold marks s (past_vrid at h).row h 1448235092 12 19 6 b → b ≡ true
        → (update : Bool) (stage : ℕ) → Behind update stage marks s at h (past_vrid at h)
        → Behind update stage marks s at h (record { row = (past_vrid at h).row + (4 + h.lengths + h.positions); prev = 6; stamp = (past_vrid at h).row; due = 31 })
    unfolding list_stands groups_good
    behind_vrpt told q update stage so =
        behind_marked so (omega arith) told q (λ c size m. field_vrpt refl (groups_so true (rw m) refl true (rw size) refl)) (λ z. omega arith) refl
