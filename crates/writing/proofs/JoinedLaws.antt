-- The rows and sizes of an item's fields from numbers, its lists joined, and how what the writer wrote joins. Assumes nothing.
use Prim.Native.Nat.{ℕ, ◌+◌, ◌-◌, ◌≤◌}
use mathlib.Core.List.{List, [], ◌∷◌, ◌++◌, append_assoc}
use mathlib.Core.Path.{◌≡◌, refl, sym, ap, ◌∙◌}
use native.Mathlib.Nat.{add-zero, zero-add}
use native.Mathlib.Omega.{arith}
use lib.ListN.{length, take, drop, length-append, length-drop}
use lib.Seq.{length-take-le}
use borrow.Author.Tests.{ne_eqb}
use Rattle.octets.specs.Number.{bytes_of}
use Rattle.octets.specs.Area.{Wrote}
use Rattle.octets.proofs.AreaLaws.{wrote_join, wrote_as, wrote_length}
use Rattle.octets.proofs.NumberLaws.{bytes_length}
use Rattle.iso8211.specs.Field.{field_at}
use Rattle.iso8211.specs.declared.field.Field.{Field}
use Rattle.table.specs.Table.{tag_of}
use Rattle.items.specs.Lists.{list_at}
use Rattle.items.specs.Identity.{id_at}
use Rattle.records.specs.Pieces.{Piece}
use Rattle.records.specs.Written.{piece_length, body_of, rows_for, base_for, head_bytes, record_bytes, size_of}
use Rattle.itemrows.specs.Plain.{tags_of}
use Rattle.itemrows.specs.Joined.{field_piece, field_pieces, id_kinds, kept_pieces, lead_pieces, joined_pieces, joined_body, bytes_for, list_row, sum_by, count_of, sum_of, list_rows}
use Rattle.itemrows.specs.Joined.{Totals, Tagged, Lead, Sized}
use Rattle.joining.proofs.PartLaws.{body_append}
use Rattle.itemrows.proofs.RowLaws.{bytes_no, bytes_some, four_is}
use Rattle.itemrows.proofs.PlanLaws.{Planned, planned_size, planned_head, planned_room, planned_put}

-- ---- lists by their lengths
unfoldable pub lengths : (ℕ → List ℕ) → List ℕ → List ℕ
lengths bytes [] = []
lengths bytes (k ∷ ks) = length (bytes k) ∷ lengths bytes ks

row_some : (due tag t : ℕ) → (t ≡ 0 → ⊥) → list_row due tag t ≡ (tag ∷ (t + 1) ∷ due ∷ []) ∷ []
unfolding list_row
row_some due tag t ne = rw (ne_eqb t 0 ne)

field_row : (due k : ℕ) (bs : List ℕ) → rows_for due (field_piece k bs) ≡ list_row due (tag_of k) (length bs)
unfolding rows_for field_piece list_row
field_row due k [] = refl
field_row due k (b ∷ bs) = sym (row_some due (tag_of k) (length (b ∷ bs)) (λ (e : length (b ∷ bs) ≡ 0). omega arith))

pub field_long : (k : ℕ) (bs : List ℕ) → length (body_of (field_piece k bs)) ≡ bytes_for (length bs)
unfolding body_of field_piece
field_long k [] = bytes_no 0 refl
field_long k (b ∷ bs) = length-append (b ∷ bs) (30 ∷ []) ∙ bytes_some (length (b ∷ bs)) (λ (e : length (b ∷ bs) ≡ 0). omega arith)

pub rows_append : (due : ℕ) (fs gs : List Piece) → rows_for due (fs ++ gs) ≡ rows_for due fs ++ rows_for (due + length (body_of fs)) gs
unfolding rows_for body_of
rows_append due [] gs = ap (λ (n : ℕ). rows_for n gs) (sym (add-zero due))
rows_append due (f ∷ fs) gs =
    let e : due + piece_length f + length (body_of fs) ≡ due + length (f.content ++ (30 ∷ body_of fs)) =
    rw (length-append f.content (30 ∷ body_of fs)) (omega arith) in
    ap (λ (l : List (List ℕ)). (f.named ∷ piece_length f ∷ due ∷ []) ∷ l)
    (rows_append (due + piece_length f) fs gs ∙ ap (λ (n : ℕ). rows_for (due + piece_length f) fs ++ rows_for n gs) e)

none_of : (due : ℕ) → rows_for due [] ≡ []
unfolding rows_for
none_of due = refl

none_long : length (body_of []) ≡ 0
unfolding body_of
none_long = refl

pub lists_rows : (ks : List ℕ) (bytes : ℕ → List ℕ) (due : ℕ) → rows_for due (field_pieces ks bytes) ≡ list_rows due (tags_of ks) (lengths bytes ks)
unfolding field_pieces list_rows tags_of lengths
lists_rows [] bytes due = none_of due
lists_rows (k ∷ ks) bytes due =
    rows_append due (field_piece k (bytes k)) (field_pieces ks bytes)
    ∙ rw (field_row due k (bytes k), field_long k (bytes k), lists_rows ks bytes (due + bytes_for (length (bytes k))))

pub lists_sum : (ks : List ℕ) (bytes : ℕ → List ℕ) → length (body_of (field_pieces ks bytes)) ≡ sum_of (lengths bytes ks)
unfolding field_pieces sum_by lengths
lists_sum [] bytes = none_long
lists_sum (k ∷ ks) bytes =
    ap length (body_append (field_piece k (bytes k)) (field_pieces ks bytes)) ∙ length-append (body_of (field_piece k (bytes k))) (body_of (field_pieces ks bytes))
    ∙ rw (field_long k (bytes k), lists_sum ks bytes)

totals_lengths : (s : List ℕ) (at : ℕ) (kinds t : List ℕ) → Totals s at kinds t → length kinds ≡ 4 → length t ≡ 4 → t ≡ lengths (list_at s at) kinds
unfolding lengths
totals_lengths s at kinds t tot lk lt =
    four_is t lt
    ∙ rw (tot.is 0 (omega arith), tot.is 1 (omega arith), tot.is 2 (omega arith), tot.is 3 (omega arith)) (sym (ap (lengths (list_at s at)) (four_is kinds lk)))

-- ---- the bytes as the writer goes
module _ (s : List ℕ) (at m fixed : ℕ) (rows : List (List ℕ)) (lead : Lead s at m fixed rows) (f : Field) (read : f ≡ field_at s at 1) where
  place_is : f.start ≡ id_at s at
  place_is = ap (λ (g : Field). g.start) read

  pub lead_within : f.start + (fixed - 3) ≤ length s
  lead_within = rw place_is lead.within

  body_is : (number : ℕ) (kinds : List ℕ) → joined_body number s at f.start (fixed - 3) kinds ≡ body_of (joined_pieces number s at m kinds)
  unfolding joined_body joined_pieces lead_pieces body_of
  body_is number kinds =
      let kept = kept_pieces (id_kinds m) s at 1 in
      let lists = field_pieces kinds (list_at s at) in
      rw (place_is, lead.bytes_are) (ap (λ (l : List ℕ). bytes_of 2 number ++ (30 ∷ l)) (sym (body_append kept lists)))

-- ---- the record as it is planned
module _ (s : List ℕ) (at m fixed : ℕ) (rows : List (List ℕ)) (kinds tags t : List ℕ) (lead : Lead s at m fixed rows) (tagged : Tagged kinds tags) (tot : Totals s at kinds t)
    (n x : ℕ) (all : List (List ℕ)) (en : n ≡ count_of t) (ex : x ≡ sum_of t) (made : take (1 + m + count_of t) all ≡ take (1 + m) rows ++ list_rows fixed tags t) where
  are_lengths : t ≡ lengths (list_at s at) kinds
  are_lengths = totals_lengths s at kinds t tot tagged.four tot.four

  planned : (number : ℕ) → Planned (joined_pieces number s at m kinds) (take (1 + m + n) all) (fixed + x)
  unfolding joined_pieces
  planned number =
      let front = lead_pieces number s at m in
      let lists = field_pieces kinds (list_at s at) in
      let due : length (body_of front) ≡ fixed = lead.long number in
      let back : list_rows fixed tags t ≡ rows_for (0 + length (body_of front)) lists =
      rw (due, zero-add fixed, tagged.is, are_lengths) (sym (lists_rows kinds (list_at s at) fixed)) in
      let sum : sum_of t ≡ length (body_of lists) = ap sum_of are_lengths ∙ sym (lists_sum kinds (list_at s at)) in
      let both = ap length (body_append front lists) ∙ length-append (body_of front) (body_of lists) in
      record {
        rows_are = ap (λ (k : ℕ). take (1 + m + k) all) en ∙ made ∙ ap (λ (l : List (List ℕ)). l ++ list_rows fixed tags t) (lead.rows_are number)
            ∙ ap (λ (l : List (List ℕ)). rows_for 0 front ++ l) back ∙ sym (rows_append 0 front lists);
        long = omega arith;
      }

  pub joined_sized : (base : ℕ) → base ≡ base_for (take (1 + m + n) all) → base ≤ 217 → x ≤ 1200004 → Sized s at m kinds (base + (fixed + x))
  joined_sized base eb low few = record {
    is = λ number. rw eb (planned_size (planned number));
    few = let most = lead.most in omega arith;
  }

  pub joined_head : (number place room : ℕ) → place + size_of (joined_pieces number s at m kinds) ≤ room → place + length (head_bytes (take (1 + m + n) all) (fixed + x)) ≤ room
  joined_head number place room h = planned_head (planned number) place room h

  module _ (f : Field) (read : f ≡ field_at s at 1) where
    pub joined_room : {a b : List ℕ} {place q : ℕ} (number : ℕ) → place + size_of (joined_pieces number s at m kinds) ≤ length a
        → Wrote a place (head_bytes (take (1 + m + n) all) (fixed + x)) b q → q + length (joined_body number s at f.start (fixed - 3) kinds) ≤ length b
    joined_room number h w =
        rw (body_is s at m fixed rows lead f read number kinds) (let long = (planned number).long in omega (arith, planned_room (planned number) h w))

    pub joined_put : {a b d : List ℕ} {place q r : ℕ} (number : ℕ) → Wrote a place (head_bytes (take (1 + m + n) all) (fixed + x)) b q
        → Wrote b q (joined_body number s at f.start (fixed - 3) kinds) d r → Wrote a place (record_bytes (joined_pieces number s at m kinds)) d r
    joined_put number w v =
        planned_put (planned number) w (wrote_as (body_of (joined_pieces number s at m kinds)) (body_is s at m fixed rows lead f read number kinds) v)

-- ---- the fields: what stands before the lists, and the lists
module _ (number : ℕ) (s : List ℕ) (at from n : ℕ) (kinds : List ℕ) where
  body_long : from + n ≤ length s → length (joined_body number s at from n kinds) ≡ 3 + n + length (body_of (field_pieces kinds (list_at s at)))
  unfolding joined_body
  body_long h =
      let part = length-take-le n (drop from s) (rw length-drop (omega arith)) in
      rw (length-append (bytes_of 2 number), bytes_length 2 number, length-append (take n (drop from s)), part) (omega arith)

  pub fields_lead : (place room : ℕ) → place + length (joined_body number s at from n kinds) ≤ room → from + n ≤ length s → place + (3 + n) ≤ room
  fields_lead place room h k = omega (arith, body_long k)

  pub fields_rest : {a b : List ℕ} {place q : ℕ} {xs : List ℕ} → place + length (joined_body number s at from n kinds) ≤ length a → from + n ≤ length s
      → Wrote a place xs b q → q ≡ place + (3 + n) → q + length (body_of (field_pieces kinds (list_at s at))) ≤ length b
  fields_rest h k w e = omega (arith, body_long k, wrote_length w)

  pub fields_put : {a b d : List ℕ} {place q r : ℕ} → Wrote a place (bytes_of 2 number ++ (30 ∷ take n (drop from s))) b q
      → Wrote b q (body_of (field_pieces kinds (list_at s at))) d r → Wrote a place (joined_body number s at from n kinds) d r
  unfolding joined_body
  fields_put w x = wrote_as _ (append_assoc (bytes_of 2 number) (30 ∷ take n (drop from s)) (body_of (field_pieces kinds (list_at s at)))) (wrote_join w x)
