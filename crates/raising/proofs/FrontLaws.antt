-- What stands before the lists of a record, as it is written in front of them. Assumes nothing.
use Prim.Native.Nat.{ℕ, ◌+◌, ◌-◌, ◌≤◌}
use mathlib.Core.List.{List, [], ◌∷◌, ◌++◌}
use mathlib.Core.Path.{◌≡◌, ap}
use native.Mathlib.Omega.{arith}
use lib.ListN.{length, take, drop, length-drop}
use lib.Seq.{length-take-le}
use Rattle.octets.specs.Number.{bytes_of}
use Rattle.octets.specs.Area.{Wrote}
use Rattle.octets.proofs.AreaLaws.{wrote_join, wrote_as, wrote_length}
use Rattle.octets.proofs.NumberLaws.{bytes_length}
use Rattle.iso8211.specs.Field.{field_at}
use Rattle.iso8211.specs.declared.field.Field.{Field}
use Rattle.table.specs.Table.{tag_of, row_of, table, as_number}
use Rattle.table.specs.Text.{bytes}
use Rattle.items.specs.Premises.{Identified, Featured}
use Rattle.items.specs.Identity.{id_at, version_at}
use Rattle.records.specs.Written.{base_for, head_bytes}
use Rattle.records.proofs.WrittenLaws.{head_length}
use Rattle.itemrows.specs.Plain.{tags_of}
use Rattle.itemrows.specs.Joined.{count_of, sum_of, list_rows}
use Rattle.raising.specs.Record.{vector_head, feature_head, version_bytes, id_front, foid_bytes}

-- ---- leader and directory
head_size : (es : List (List ℕ)) (b : ℕ) → length (head_bytes es b) ≡ base_for es
unfolding head_bytes base_for
head_size es b = head_length (base_for es + b) _ _ es (base_for es)

module _ (fixed base room : ℕ) (low : base ≤ 217) (few : fixed ≤ 25) where
  pub heading_room : (all : List (List ℕ)) (n b : ℕ) → base ≡ base_for (take n all) → 256 ≤ room → 256 - fixed - base + length (head_bytes (take n all) b) ≤ room
  heading_room all n b e h = omega (arith, head_size (take n all) b)

  pub heading_put : {a d : List ℕ} {r : ℕ} (m : ℕ) (rows all : List (List ℕ)) (tags totals : List ℕ) (c x : ℕ) → c ≡ count_of totals → x ≡ sum_of totals
      → take (1 + m + count_of totals) all ≡ take (1 + m) rows ++ list_rows fixed tags totals → base ≡ base_for (take (1 + m + c) all)
      → Wrote a (256 - fixed - base) (head_bytes (take (1 + m + c) all) (fixed + x)) d r
      → Wrote a (256 - fixed - base) (head_bytes (take (1 + m) rows ++ list_rows fixed tags totals) (fixed + sum_of totals)) d (256 - fixed)
  heading_put {r = r} m rows all tags totals c x ec ex are eb w =
      let end : r ≡ 256 - fixed = omega (arith, w.end, head_size (take (1 + m + c) all) (fixed + x)) in
      rw end at (wrote_as (head_bytes (take (1 + m) rows ++ list_rows fixed tags totals) (fixed + sum_of totals)) (rw (ec, ex, are)) w)

-- ---- RVER and RUIN
module _ {a b : List ℕ} {at i : ℕ} (v : ℕ) (w : Wrote a at (bytes_of 2 v) b i) where
  pub version_next : at + 4 ≤ length a → i + 1 ≤ length b
  version_next h = omega (arith, w.end, wrote_length w, bytes_length 2 v)

  module _ {d : List ℕ} {j : ℕ} (x : Wrote b i (bytes_of 1 1) d j) where
    pub version_last : at + 4 ≤ length a → j + 1 ≤ length d
    version_last h = omega (arith, w.end, wrote_length w, bytes_length 2 v, x.end, wrote_length x, bytes_length 1 1)

    module _ {e : List ℕ} {r : ℕ} (y : Wrote d j (bytes_of 1 30) e r) where
      pub version_put : Wrote a at (version_bytes v) e r
      unfolding version_bytes bytes_of
      version_put = wrote_join w (wrote_join x y)

      pub version_end : r ≡ at + 4
      version_end = omega (arith, w.end, x.end, y.end, bytes_length 2 v, bytes_length 1 1, bytes_length 1 30)

-- ---- the identifier field
pub id_within : (s : List ℕ) (at n : ℕ) (f : Field) → f ≡ field_at s at 1 → id_at s at + n ≤ length s → f.start + n ≤ length s
id_within s at n f read h = rw read h

pub identity_put : {a b d : List ℕ} {place q r : ℕ} (s : List ℕ) (at n v : ℕ) (f : Field) → f ≡ field_at s at 1 → v ≡ version_at s at
    → Wrote a place (bytes_of 2 0 ++ (30 ∷ take n (drop f.start s))) b q → Wrote b q (version_bytes (v + 1)) d r → Wrote a place (id_front s at n (version_at s at + 1)) d r
unfolding id_front
identity_put s at n v f read version w x =
    wrote_as _ (rw (read, version)) (wrote_join w x)

pub id_five : {s : List ℕ} {at : ℕ} → Identified s at → id_at s at + 5 ≤ length s
id_five known = let h = known.long in omega arith

pub id_nine : {s : List ℕ} {at : ℕ} → Featured s at → id_at s at + 9 ≤ length s
id_nine of = let h = of.long in omega arith

-- ---- FOID
pub foid_start : (s : List ℕ) (at : ℕ) (f : Field) → f ≡ field_at s at 2 → f.start ≡ (field_at s at 2).start
foid_start s at f read = ap (λ (g : Field). g.start) read

pub foid_within : {s : List ℕ} {at : ℕ} (f : Field) → f ≡ field_at s at 2 → Featured s at → f.start + 8 ≤ length s
foid_within f read of = rw read of.whole

module _ (s : List ℕ) (at from : ℕ) (read : from ≡ (field_at s at 2).start) (within : from + 8 ≤ length s) where
  cut : from + 8 - from ≡ 8
  cut = omega arith

  eight : length (take (from + 8 - from) (drop from s)) ≡ 8
  eight = rw cut (length-take-le 8 (drop from s) (rw length-drop (omega arith)))

  pub foid_room : (place room : ℕ) → place + 9 ≤ room → place + length (take (from + 8 - from) (drop from s)) ≤ room
  foid_room place room h = omega (arith, eight)

  module _ {a b : List ℕ} {place q : ℕ} (w : Wrote a place (take (from + 8 - from) (drop from s)) b q) where
    pub foid_last : place + 9 ≤ length a → q + 1 ≤ length b
    foid_last h = omega (arith, eight, w.end, wrote_length w)

    pub foid_put : {d : List ℕ} {r : ℕ} → Wrote b q (bytes_of 1 30) d r → Wrote a place (foid_bytes s at) d r
    unfolding foid_bytes bytes_of
    foid_put x = wrote_join (wrote_as (take 8 (drop (field_at s at 2).start s)) (rw (cut, read)) w) x

    pub foid_end : {d : List ℕ} {r : ℕ} → Wrote b q (bytes_of 1 30) d r → r ≡ place + 9
    foid_end x = omega (arith, eight, w.end, x.end, bytes_length 1 30)

-- ---- all of it
pub vector_put : {a b d : List ℕ} {place r : ℕ} (rows : List (List ℕ)) (totals xs : List ℕ) → take 2 rows ≡ (808464433 ∷ 3 ∷ 0 ∷ []) ∷ (1448233284 ∷ 9 ∷ 3 ∷ []) ∷ []
    → Wrote a place (head_bytes (take (1 + 1) rows ++ list_rows 12 (1096045654 ∷ 1448235092 ∷ 1397174852 ∷ 1397175108 ∷ []) totals) (12 + sum_of totals)) b (256 - 12)
    → Wrote b 244 xs d r → r ≡ 244 + (7 + 5) → Wrote a place (vector_head totals ++ xs) d 256
unfolding vector_head tags_of tag_of row_of table as_number bytes
vector_put rows totals xs told w x end = rw end at (wrote_join (wrote_as (vector_head totals) (rw told) w) x)

pub feature_put : {a b d e : List ℕ} {place q r : ℕ} (rows : List (List ℕ)) (totals xs ys : List ℕ)
    → take 3 rows ≡ (808464433 ∷ 3 ∷ 0 ∷ []) ∷ (1179797828 ∷ 13 ∷ 3 ∷ []) ∷ (1179601220 ∷ 9 ∷ 16 ∷ []) ∷ []
    → Wrote a place (head_bytes (take (1 + 2) rows ++ list_rows 25 (1096045638 ∷ 1312904262 ∷ 1179013204 ∷ 1179865172 ∷ []) totals) (25 + sum_of totals)) b (256 - 25)
    → Wrote b 231 xs d q → q ≡ 231 + (7 + 9) → Wrote d q ys e r → r ≡ q + 9 → Wrote a place (feature_head totals ++ (xs ++ ys)) e 256
unfolding feature_head tags_of tag_of row_of table as_number bytes
feature_put {r = r} rows totals xs ys told w x mid y end =
    let last : r ≡ 256 = omega arith in
    rw last at (wrote_join (wrote_as (feature_head totals) (rw told) w) (wrote_join x y))
