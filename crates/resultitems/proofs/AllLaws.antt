-- All items counted and written: turns of the loops along the walk. Assumes nothing.
use Prim.Native.Nat.{ℕ, suc, ◌+◌, ◌≤◌, max}
use mathlib.Core.List.{List, [], ◌∷◌, ◌++◌, map}
use mathlib.Core.Path.{◌≡◌, refl, ap, ◌∙◌}
use native.Mathlib.Omega.{arith}
use lib.ListN.{length, length-append}
use Rattle.octets.specs.Area.{Wrote, Going}
use Rattle.octets.proofs.AreaLaws.{going_start, going_step, going_end, going_room}
use Rattle.records.specs.Written.{record_bytes, records_bytes, size_of}
use Rattle.records.proofs.WrittenLaws.{record_length}
use Rattle.items.specs.Item.{Item}
use Rattle.itemfields.specs.Fields.{item_pieces}
use Rattle.held.specs.Held.{items_pieces}
use Rattle.held.specs.Limits.{longest_of}
use Rattle.merge.specs.Places.{places_from, places_of, Headed}
use Rattle.merge.specs.declared.walk.At.{At}
use Rattle.merge.proofs.PlacesLaws.{places_start, places_end, places_length}
use Rattle.resultitems.specs.Result.{object_of}
use Rattle.resultitems.specs.Able.{AllAble}
use Rattle.resultitems.specs.Items.{objects_from, objects_in, written_by, most_by, ObjectSized, AllSized, Counted, Items}

-- ---- records, one in front of the others
one_more : (n : ℕ) (t : Item) (ts : List Item) → written_by n (t ∷ ts) ≡ record_bytes (item_pieces n t) ++ written_by (n + 1) ts
unfolding written_by items_pieces records_bytes
one_more n t ts = refl

most_more : (n : ℕ) (t : Item) (ts : List Item) → most_by n (t ∷ ts) ≡ max (size_of (item_pieces n t)) (most_by (n + 1) ts)
unfolding most_by items_pieces longest_of
most_more n t ts = refl

none_left : (n : ℕ) → written_by n [] ≡ []
unfolding written_by items_pieces records_bytes
none_left n = refl

none_most : (n : ℕ) → most_by n [] ≡ 0
unfolding most_by items_pieces longest_of
none_most n = refl

next_number : (i : ℕ) → i + 3 + 1 ≡ i + 1 + 3
next_number i = omega arith

-- record i + 3 in front
written_next : (i : ℕ) (t : Item) (ts : List Item) → written_by (i + 3) (t ∷ ts) ≡ record_bytes (item_pieces (i + 3) t) ++ written_by (i + 1 + 3) ts
written_next i t ts = one_more (i + 3) t ts ∙ ap (λ (n : ℕ). record_bytes (item_pieces (i + 3) t) ++ written_by n ts) (next_number i)

next_long : (i : ℕ) (t : Item) (ts : List Item) → length (written_by (i + 3) (t ∷ ts)) ≡ size_of (item_pieces (i + 3) t) + length (written_by (i + 1 + 3) ts)
next_long i t ts =
    ap length (written_next i t ts) ∙ length-append (record_bytes (item_pieces (i + 3) t)) (written_by (i + 1 + 3) ts)
    ∙ ap (λ (n : ℕ). n + length (written_by (i + 1 + 3) ts)) (record_length (item_pieces (i + 3) t))

counted_more : {all ts : List Item} {t : Item} {i sum most : ℕ} (size now : ℕ) → Counted all i (t ∷ ts) sum most → ObjectSized t size → now ≡ max most size
    → Counted all (i + 1) ts (sum + size) now
counted_more {all} {ts} {t} {i} {sum} {most} size now so z e =
    let a = so.sum_is in
    let b = so.most_is in
    let l = so.low in
    let f = z.few in
    let is = z.is (i + 3) in
    record {
      sum_is = omega (arith, next_long i t ts);
      most_is = omega (arith, most_more (i + 3) t ts, ap (λ (n : ℕ). most_by n ts) (next_number i));
      low = omega arith;
    }

-- ---- the walk: the item in front, and the rest
module _ {work : List ℕ} {end count edits i j : ℕ} {a : At} (head : Headed work end count edits i j a) (cell update : List ℕ) where
  pub peel : objects_from cell update work end count edits i j ≡ object_of cell update a ∷ objects_from cell update work end count edits (i + 1) (j + a.change)
  unfolding objects_from
  peel = ap (map (object_of cell update)) head.is

  pub counted_on : {all : List Item} {sum most : ℕ} (size now : ℕ) → Counted all i (objects_from cell update work end count edits i j) sum most
      → ObjectSized (object_of cell update a) size → now ≡ max most size
      → Counted all (i + 1) (objects_from cell update work end count edits (i + 1) (j + a.change)) (sum + size) now
  counted_on size now so z e = counted_more size now (rw peel at so) z e

  pub items_room : {x b all : List ℕ} {p q : ℕ} → Going x p all b q (written_by (i + 3) (objects_from cell update work end count edits i j)) → p + length all ≤ length x
      → q + size_of (item_pieces (i + 3) (object_of cell update a)) ≤ length b
  items_room g room =
      omega (
        arith,
        going_room g room,
        ap (λ (ts : List Item). length (written_by (i + 3) ts)) peel,
        next_long i (object_of cell update a) (objects_from cell update work end count edits (i + 1) (j + a.change)),
      )

  pub items_on : {x b d all : List ℕ} {p q r : ℕ} → Going x p all b q (written_by (i + 3) (objects_from cell update work end count edits i j))
      → Wrote b q (record_bytes (item_pieces (i + 3) (object_of cell update a))) d r
      → Going x p all d r (written_by (i + 1 + 3) (objects_from cell update work end count edits (i + 1) (j + a.change)))
  items_on g w =
      let t = object_of cell update a in
      let ts = objects_from cell update work end count edits (i + 1) (j + a.change) in
      going_step (record_bytes (item_pieces (i + 3) t)) (written_by (i + 1 + 3) ts) g
      (ap (λ (os : List Item). written_by (i + 3) os) peel ∙ written_next i t ts) w

-- ---- before the first item, and behind the last
module _ (cell update work : List ℕ) (end count edits : ℕ) where
  pub all_from : objects_from cell update work end count edits 0 0 ≡ objects_in cell update work end count edits
  unfolding objects_from objects_in
  all_from = ap (map (object_of cell update)) (places_start work end count edits)

  pub able_start : Items cell update work end count edits → AllAble cell update (places_from work end count edits 0 0)
  able_start so = rw (places_start work end count edits) so.able

  pub counted_start : Counted (objects_in cell update work end count edits) 0 (objects_from cell update work end count edits 0 0) 0 0
  counted_start = rw all_from (record { sum_is = omega arith; most_is = omega arith; low = omega arith })

  pub items_start : (a : List ℕ) (p : ℕ) → p + length (written_by 3 (objects_in cell update work end count edits)) ≤ length a
      → Going a p (written_by 3 (objects_in cell update work end count edits)) a p (written_by (0 + 3) (objects_from cell update work end count edits 0 0))
  items_start a p h = rw all_from (going_start a p (written_by 3 (objects_in cell update work end count edits)) (omega arith))

  module _ (i j : ℕ) (past : count ≤ i) where
    pub gone : objects_from cell update work end count edits i j ≡ []
    unfolding objects_from
    gone = ap (map (object_of cell update)) (places_end work end count edits i j past)

    none : written_by (i + 3) (objects_from cell update work end count edits i j) ≡ []
    none = ap (λ (ts : List Item). written_by (i + 3) ts) gone ∙ none_left (i + 3)

    pub items_end : {a b all : List ℕ} {p q : ℕ} → Going a p all b q (written_by (i + 3) (objects_from cell update work end count edits i j)) → Wrote a p all b q
    items_end g = going_end g none

    pub counted_end : {all : List Item} (sum most : ℕ) → Counted all i (objects_from cell update work end count edits i j) sum most → i ≤ count → count ≤ 65536
        → AllSized all (record { sum = sum; most = most })
    counted_end sum most so le few =
        let a = so.sum_is in
        let b = so.most_is in
        let l = so.low in
        let e = ap length none in
        let m = ap (λ (ts : List Item). most_by (i + 3) ts) gone ∙ none_most (i + 3) in
        record { sum_is = omega arith; most_is = omega arith; sum_few = omega arith }

-- as many objects as words
map_length : {A B : Type 0} (f : A → B) (l : List A) → length (map f l) ≡ length l
map_length f [] = refl
map_length f (x ∷ l) = ap suc (map_length f l)

pub objects_length : (cell update work : List ℕ) (end count edits : ℕ) → length (objects_in cell update work end count edits) ≡ count
unfolding objects_in
objects_length cell update work end count edits = map_length (object_of cell update) (places_of work end count edits) ∙ places_length work end count edits
