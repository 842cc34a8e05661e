-- A record whose bytes are those of the held form is its item's: its size, and what is written of it, as the code asks for it. Assumes nothing.
use Prim.Native.Nat.{ℕ, suc, ◌+◌, ◌-◌, ◌≤◌, ◌<◌}
use mathlib.Core.Bool.{Bool, true, false}
use mathlib.Core.List.{List, ◌++◌}
use mathlib.Core.Path.{◌≡◌, refl, sym, ap, ◌∙◌}
use native.Mathlib.Omega.{arith}
use lib.ListN.{length, take, drop, length-append}
use Rattle.octets.specs.Number.{byte_at, bytes_of}
use Rattle.octets.specs.Area.{Wrote}
use Rattle.octets.proofs.AreaLaws.{wrote_as}
use Rattle.octets.proofs.NumberLaws.{bytes_length}
use Rattle.iso8211.specs.Leader.{size_at, base_at}
use Rattle.iso8211.specs.Field.{directory_at, field_at}
use Rattle.iso8211.proofs.Promise.{directory_length}
use Rattle.items.specs.Identity.{id_at}
use Rattle.items.specs.Item.{item_at}
use Rattle.records.specs.Written.{body_of, rows_for, base_for, head_bytes, record_bytes, size_of}
use Rattle.itemfields.specs.Fields.{item_pieces}
use Rattle.itemrows.specs.Plain.{Writable, ItemSized}
use Rattle.asheld.specs.Held.{Held, HeldTold, FrontTold, Same, held_bytes}
use Rattle.asheld.proofs.PartLaws.{part_long, part_more}
use Rattle.writing.specs.All.{ItemKnown}
use Rattle.writing.proofs.FieldLaws.{end_of_fields, end_within, end_behind}
use Rattle.writing.proofs.StandLaws.{standing, id_start, stands, stands_rows, stands_body}

module _ (s : List ℕ) (at r : ℕ) (w : Writable s at) (told : HeldTold s at r) (ne : r ≡ 0 → ⊥) where
  pub held_is : Held s at r
  held_is = told.is ne

  id_place : id_at s at ≡ at + base_at s at + 3
  id_place = id_start s at w held_is.plain

  ends : at + r ≡ end_of_fields s at
  unfolding end_of_fields field_at
  ends = let long = held_is.long in omega arith

  least : base_at s at + 3 ≤ r
  least = let two = w.laid.two in omega (arith, ends, id_place, end_behind s at w.laid 1 (omega arith))

  pub held_least : (base : ℕ) → base ≡ base_at s at → base + 2 ≤ r
  held_least base e = omega (arith, least)

  fits : at + r ≤ length s
  fits = let whole = w.laid.inside.fits in omega (arith, ends, end_within s at w.laid)

  -- 0001 ends in 1E
  closing : byte_at s (at + base_at s at + 2) ≡ 30
  closing =
      let two = w.laid.two in
      let front = w.laid.inside.front in
      let next = w.laid.inside.gapless 0 (omega arith) in
      let place : (field_at s at 0).start + (field_at s at 0).length - 1 ≡ at + base_at s at + 2 = omega (arith, id_place) in
      rw place at (w.laid.inside.fields 0 (omega arith)).ends

  base_is : base_for (directory_at s at) ≡ base_at s at
  unfolding base_for
  base_is = rw (directory_length s at, held_is.narrow.lengths, held_is.narrow.positions) w.laid.inside.headed.whole

  abbrev rest : List ℕ
  rest = take (r - (base_at s at + 2)) (drop (at + base_at s at + 2) s)

  body_is : (number : ℕ) → body_of (standing number s at) ≡ bytes_of 2 number ++ rest
  body_is number =
      let count : suc (end_of_fields s at - id_at s at) ≡ r - (base_at s at + 2) = omega (arith, ends, id_place, least) in
      stands_body s at w held_is.plain number
      ∙ ap (λ (l : List ℕ). bytes_of 2 number ++ l)
      (part_more s (at + base_at s at + 2) (id_at s at) (end_of_fields s at - id_at s at) 30 (omega (arith, id_place)) closing (omega (arith, fits, least))
      ∙ ap (λ (k : ℕ). take k (drop (at + base_at s at + 2) s)) count)

  body_long : (number : ℕ) → length (body_of (standing number s at)) ≡ r - base_at s at
  body_long number =
      ap length (body_is number) ∙ length-append (bytes_of 2 number) rest
      ∙ omega (arith, bytes_length 2 number, part_long s (at + base_at s at + 2) (r - (base_at s at + 2)) (omega (arith, fits, least)), least)

  module _ (small : (i : ℕ) → byte_at s i < 256) where
    rows_are : (number : ℕ) → rows_for 0 (item_pieces number (item_at s at)) ≡ directory_at s at
    rows_are number = ap (rows_for 0) (stands s at w held_is.plain small number) ∙ stands_rows s at w held_is.plain number

    fields_are : (number : ℕ) → body_of (item_pieces number (item_at s at)) ≡ body_of (standing number s at)
    fields_are number = ap body_of (stands s at w held_is.plain small number)

    pub held_sized : ItemSized s at r
    unfolding size_of
    held_sized = record {
      is = λ number. rw (rows_are number, base_is, fields_are number, body_long number) (omega (arith, least));
      few = let few = told.few in omega arith;
    }

    pub held_room : (number place room : ℕ) → place + size_of (item_pieces number (item_at s at)) ≤ room → place + r ≤ room
    held_room number place room h = omega (arith, held_sized.is number)

    record_is : (number : ℕ) → held_bytes number s at r ≡ record_bytes (item_pieces number (item_at s at))
    unfolding held_bytes record_bytes head_bytes
    record_is number =
        let all : base_at s at + (r - base_at s at) ≡ r = omega (arith, least) in
        sym (rw (rows_are number, fields_are number, body_long number, base_is, held_is.narrow.lengths, held_is.narrow.positions, all, body_is number))

    pub held_item : {a b : List ℕ} {place e : ℕ} (number : ℕ) → Wrote a place (held_bytes number s at r) b e → Wrote a place (record_bytes (item_pieces number (item_at s at))) b e
    held_item number v = wrote_as (record_bytes (item_pieces number (item_at s at))) (record_is number) v

-- ---- known to be the held form's
pub known_any : (s : List ℕ) (at r : ℕ) → ItemSized s at r → ItemKnown s at (record { size = r; same = false })
known_any s at r sized = record { sized = sized; same = λ (e : false ≡ true). absurd (let z : ◌≡◌ {A = ℕ} 0 1 = cc in omega arith) }

pub front_same : (s : List ℕ) (at r : ℕ) (b : Bool) → HeldTold s at r → (r ≡ 0 → ⊥) → FrontTold s at r b → b ≡ true → Same s at
front_same s at r b told ne front e =
    let few = told.few in
    record {
      held = rw (front.read e) (told.is ne);
      front = rw (front.read e) (front.is e);
      few = rw (front.read e) few;
    }

pub known_held : (s : List ℕ) (at r : ℕ) (b : Bool) → Writable s at → ((i : ℕ) → byte_at s i < 256) → HeldTold s at r → (r ≡ 0 → ⊥) → FrontTold s at r b
    → ItemKnown s at (record { size = r; same = b })
known_held s at r b w small told ne front = record {
  sized = held_sized s at r w told ne small;
  same = front_same s at r b told ne front;
}

module _ (s : List ℕ) (at : ℕ) (w : Writable s at) (same : Same s at) where
  same_told : HeldTold s at (size_at s at)
  same_told = record { is = λ (ne : size_at s at ≡ 0 → ⊥). same.held; few = same.few }

  some_bytes : size_at s at ≡ 0 → ⊥
  some_bytes e = let long = same.held.long in let low = w.laid.inside.headed.low in omega arith

  pub same_least : base_at s at + 2 ≤ size_at s at
  same_least = held_least s at (size_at s at) w same_told some_bytes (base_at s at) refl

  module _ (small : (i : ℕ) → byte_at s i < 256) where
    pub same_room : (number place room : ℕ) → place + size_of (item_pieces number (item_at s at)) ≤ room → place + size_at s at ≤ room
    same_room = held_room s at (size_at s at) w same_told some_bytes small

    pub same_item : {a b : List ℕ} {place e : ℕ} (number : ℕ) → Wrote a place (held_bytes number s at (size_at s at)) b e
        → Wrote a place (record_bytes (item_pieces number (item_at s at))) b e
    same_item = held_item s at (size_at s at) w same_told some_bytes small
