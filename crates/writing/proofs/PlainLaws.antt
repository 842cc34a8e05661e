-- A record that stands as in held form: its size, and what is written of it, as the code asks for it. Assumes nothing.
use Prim.Native.Nat.{ℕ, ◌+◌, ◌-◌, ◌≤◌, ◌<◌}
use mathlib.Core.Bool.{Bool, false, not}
use mathlib.Core.List.{List, [], ◌∷◌, ◌++◌}
use mathlib.Core.Path.{◌≡◌, sym, ap, ◌∙◌}
use native.Mathlib.Omega.{arith}
use lib.ListN.{length, take, drop, get_or, length-append, length-drop}
use lib.Seq.{length-take-le, get_or-take}
use borrow.Author.Tests.{not-false}
use Rattle.octets.specs.Number.{byte_at, bytes_of}
use Rattle.octets.specs.Area.{Wrote}
use Rattle.octets.proofs.AreaLaws.{wrote_as}
use Rattle.octets.proofs.NumberLaws.{bytes_length}
use Rattle.iso8211.specs.Leader.{base_at}
use Rattle.iso8211.specs.Directory.{len, position}
use Rattle.iso8211.specs.Field.{count_at, directory_at, field_at}
use Rattle.items.specs.Identity.{id_at}
use Rattle.records.specs.Written.{body_of, base_for, head_bytes, record_bytes, size_of}
use Rattle.items.specs.Item.{item_at}
use Rattle.itemfields.specs.Fields.{item_pieces}
use Rattle.itemrows.specs.Plain.{Writable, ItemSized, Plain, PlainTold, Ended}
use Rattle.writing.proofs.FieldLaws.{end_of_fields, end_within, end_behind}
use Rattle.itemrows.proofs.PlanLaws.{Planned, planned_as, planned_size, planned_head, planned_room, planned_put}
use Rattle.writing.proofs.StandLaws.{standing, id_start, stands, stands_rows, stands_body}

-- r says that the record is such
pub plain_few : {s : List ℕ} {at : ℕ} (n : ℕ) (r : Bool) → n ≡ count_at s at → PlainTold s at r → not r ≡ false → n ≤ 8
plain_few n r count told is = let few = told.few (not-false r is) in omega arith

-- and these are its rows
module _ (s : List ℕ) (at n : ℕ) (out : List (List ℕ)) (r : Bool) (w : Writable s at) (count : n ≡ count_at s at)
    (read : take (count_at s at) out ≡ directory_at s at) (told : PlainTold s at r) (is : not r ≡ false) where
  rows_are : take n out ≡ directory_at s at
  rows_are = rw count read

  plainly : Plain (directory_at s at)
  plainly = told.is (not-false r is)

  some : 2 ≤ n
  some = let two = w.laid.two in omega arith

  last_row_lem : get_or out (n - 1) [] ≡ get_or (directory_at s at) (n - 1) []
  last_row_lem = sym (get_or-take n out (n - 1) [] (omega (arith, some))) ∙ ap (λ (l : List (List ℕ)). get_or l (n - 1) []) rows_are

  -- where the last row says that its field ends
  ends : at + base_at s at + (len (get_or out (n - 1) []) + position (get_or out (n - 1) [])) ≡ end_of_fields s at
  unfolding end_of_fields field_at
  ends =
      let e : n - 1 ≡ count_at s at - 1 = omega arith in
      rw (last_row_lem, e) (omega arith)

  pub plain_ended : Ended out n
  plain_ended = record {
    some = omega (arith, some);
    few = omega (arith, told.few (not-false r is));
    short = let small = w.laid.inside.small in omega (arith, ends, end_within s at w.laid);
  }

  module _ (b : ℕ) (told_end : b ≡ len (get_or out (n - 1) []) + position (get_or out (n - 1) [])) where
    -- the fields behind 0001 have b - 3 bytes
    id_place : id_at s at ≡ at + base_at s at + 3
    id_place = id_start s at w plainly

    behind : end_of_fields s at - id_at s at ≡ b - 3
    behind = omega (arith, ends, id_place)

    pub plain_least : 3 ≤ b
    plain_least = omega (arith, ends, id_place, end_behind s at w.laid 1 (omega (arith, some)))

    fits : id_at s at + (b - 3) ≤ length s
    fits = let whole = w.laid.inside.fits in omega (arith, ends, id_place, plain_least, end_within s at w.laid)

    body_is : (number : ℕ) → body_of (standing number s at) ≡ bytes_of 2 number ++ (30 ∷ take (b - 3) (drop (id_at s at) s))
    body_is number = stands_body s at w plainly number ∙ ap (λ (k : ℕ). bytes_of 2 number ++ (30 ∷ take k (drop (id_at s at) s))) behind

    body_long : (number : ℕ) → length (body_of (standing number s at)) ≡ b
    body_long number =
        let part = length-take-le (b - 3) (drop (id_at s at) s) (rw length-drop (omega (arith, fits))) in
        let sum = length-append (bytes_of 2 number) (30 ∷ take (b - 3) (drop (id_at s at) s)) in
        ap length (body_is number) ∙ sum ∙ omega (arith, bytes_length 2 number, plain_least)

    pub plain_from : (base : ℕ) → base ≡ base_at s at → at + base + 3 + (b - 3) ≤ length s
    plain_from base e = omega (arith, fits, id_place)

    module _ (small : (i : ℕ) → byte_at s i < 256) where
      planned : (number : ℕ) → Planned (item_pieces number (item_at s at)) (take n out) b
      planned number =
          planned_as (item_pieces number (item_at s at)) (sym (stands s at w plainly small number))
          (record { rows_are = rows_are ∙ sym (stands_rows s at w plainly number); long = sym (body_long number) })

      pub plain_sized : (base : ℕ) → base ≡ base_for (take n out) → base ≤ 217 → b ≤ 300000 → ItemSized s at (base + b)
      plain_sized base e low few = record { is = λ number. rw e (planned_size (planned number)); few = omega arith }

      pub plain_head : (number place room : ℕ) → place + size_of (item_pieces number (item_at s at)) ≤ room → place + length (head_bytes (take n out) b) ≤ room
      plain_head number place room h = planned_head (planned number) place room h

      pub plain_room : {a d : List ℕ} {place q : ℕ} (number : ℕ) → place + size_of (item_pieces number (item_at s at)) ≤ length a
          → Wrote a place (head_bytes (take n out) b) d q → q + (3 + (b - 3)) ≤ length d
      plain_room number h v = omega (arith, planned_room (planned number) h v, plain_least)

      pub plain_put : {a d f : List ℕ} {place q e : ℕ} (number base : ℕ) → base ≡ base_at s at → Wrote a place (head_bytes (take n out) b) d q
          → Wrote d q (bytes_of 2 number ++ (30 ∷ take (b - 3) (drop (at + base + 3) s))) f e → Wrote a place (record_bytes (item_pieces number (item_at s at))) f e
      plain_put number base eb v x =
          let from : at + base + 3 ≡ id_at s at = omega (arith, id_place) in
          let body : bytes_of 2 number ++ (30 ∷ take (b - 3) (drop (at + base + 3) s)) ≡ body_of (item_pieces number (item_at s at)) =
          rw (from, stands s at w plainly small number) (sym (body_is number)) in
          planned_put (planned number) v (wrote_as (body_of (item_pieces number (item_at s at))) body x)
