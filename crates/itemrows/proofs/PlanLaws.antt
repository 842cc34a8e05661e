-- A record as it is planned, its rows and how many bytes its fields have, and what is written by the plan. Assumes nothing.
use Prim.Native.Nat.{ℕ, ◌+◌, ◌-◌, ◌≤◌}
use mathlib.Core.List.{List, ◌∷◌, ◌++◌}
use mathlib.Core.Path.{◌≡◌, ap}
use native.Mathlib.Omega.{arith}
use lib.ListN.{length, take, drop, length-append, length-drop}
use lib.Seq.{length-take-le}
use Rattle.octets.specs.Number.{bytes_of}
use Rattle.octets.specs.Area.{Wrote}
use Rattle.octets.proofs.AreaLaws.{wrote_join, wrote_as, wrote_length}
use Rattle.octets.proofs.NumberLaws.{bytes_length}
use Rattle.records.specs.Pieces.{Piece}
use Rattle.records.specs.Written.{body_of, rows_for, base_for, head_bytes, record_bytes, size_of}
use Rattle.records.proofs.WrittenLaws.{record_length}

-- ---- a record of the fields fs has the rows es, and its fields have b bytes
pub record Planned (fs : List Piece) (es : List (List ℕ)) (b : ℕ) : Type 0 where
  pub rows_are : es ≡ rows_for 0 fs
  pub long : b ≡ length (body_of fs)

pub planned_as : {fs : List Piece} {es : List (List ℕ)} {b : ℕ} (gs : List Piece) → fs ≡ gs → Planned fs es b → Planned gs es b
planned_as gs e plan = rw e at plan

module _ {fs : List Piece} {es : List (List ℕ)} {b : ℕ} (plan : Planned fs es b) where
  pub planned_size : base_for es + b ≡ size_of fs
  unfolding size_of
  planned_size = rw (plan.rows_are, plan.long)

  head_is : head_bytes es b ≡ head_bytes (rows_for 0 fs) (length (body_of fs))
  head_is = rw (plan.rows_are, plan.long)

  head_long : length (head_bytes es b) + b ≡ size_of fs
  unfolding record_bytes
  head_long =
      let e = length-append (head_bytes (rows_for 0 fs) (length (body_of fs))) (body_of fs) in
      let long = plan.long in
      omega (arith, record_length fs, ap length head_is)

  -- room for the head, and behind it for the fields
  pub planned_head : (place room : ℕ) → place + size_of fs ≤ room → place + length (head_bytes es b) ≤ room
  planned_head place room h = omega (arith, head_long)

  pub planned_room : {a d : List ℕ} {place q : ℕ} → place + size_of fs ≤ length a → Wrote a place (head_bytes es b) d q → q + b ≤ length d
  planned_room h w = omega (arith, head_long, w.end, wrote_length w)

  pub planned_put : {a d e : List ℕ} {place q r : ℕ} → Wrote a place (head_bytes es b) d q → Wrote d q (body_of fs) e r → Wrote a place (record_bytes fs) e r
  unfolding record_bytes
  planned_put w x = wrote_join (wrote_as (head_bytes (rows_for 0 fs) (length (body_of fs))) head_is w) x

-- ---- 0001 with its running number, and n bytes from `from` on
module _ (s : List ℕ) (from n : ℕ) where
  cut : from + n - from ≡ n
  cut = omega arith

  part_long : from + n ≤ length s → length (take (from + n - from) (drop from s)) ≡ n
  part_long h = rw cut (length-take-le n (drop from s) (rw length-drop (omega arith)))

  module _ {a b : List ℕ} {place i : ℕ} (number : ℕ) (w : Wrote a place (bytes_of 2 number) b i) where
    pub number_room : place + (3 + n) ≤ length a → i + 1 ≤ length b
    number_room room = omega (arith, w.end, wrote_length w, bytes_length 2 number)

    module _ {d : List ℕ} {j : ℕ} (x : Wrote b i (bytes_of 1 30) d j) where
      pub lead_room : place + (3 + n) ≤ length a → from + n ≤ length s → j + length (take (from + n - from) (drop from s)) ≤ length d
      lead_room room h = omega (arith, w.end, x.end, wrote_length w, wrote_length x, part_long h, bytes_length 2 number, bytes_length 1 30)

      module _ {e : List ℕ} {r : ℕ} (y : Wrote d j (take (from + n - from) (drop from s)) e r) where
        pub lead_put : Wrote a place (bytes_of 2 number ++ (30 ∷ take n (drop from s))) e r
        unfolding bytes_of
        lead_put = wrote_join w (wrote_join x (wrote_as (take n (drop from s)) (rw cut) y))

        pub lead_end : from + n ≤ length s → r ≡ place + (3 + n)
        lead_end h = omega (arith, w.end, x.end, y.end, part_long h, bytes_length 2 number, bytes_length 1 30)
