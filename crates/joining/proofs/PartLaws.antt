-- The lists of an item counted and copied: a field, and turns of the loops. Assumes nothing.
use Prim.Native.Nat.{ℕ, zero, suc, ◌+◌, ◌-◌, ◌≤◌, ◌<◌}
use mathlib.Core.List.{List, [], ◌∷◌, ◌++◌, append_assoc}
use mathlib.Core.Path.{◌≡◌, refl, sym, ap, ◌∙◌}
use native.Mathlib.Numerals.{add-one}
use native.Mathlib.Omega.{arith}
use lib.ListN.{length, take, drop, get_or, length-append, length-drop, drop_of_length-le}
use lib.Seq.{drop-cons, length-take-le}
use Rattle.octets.specs.Number.{bytes_of}
use Rattle.octets.specs.Area.{Wrote, Going}
use Rattle.octets.proofs.AreaLaws.{wrote_join, wrote_as, wrote_none, wrote_length, going_start, going_step, going_end, going_room}
use Rattle.iso8211.specs.Field.{count_at, field_at}
use Rattle.iso8211.specs.Premises.{HeadOf, Due}
use Rattle.iso8211.specs.declared.field.Head.{Head}
use Rattle.iso8211.specs.declared.field.Field.{Field}
use Rattle.table.specs.Table.{kind_of}
use Rattle.items.specs.Premises.{LaidOut}
use Rattle.items.specs.Lists.{part_at, join_from, list_at}
use Rattle.items.proofs.ListsLaws.{part_yes, part_no, join_next, join_end, join_all, list_short, field_ends}
use Rattle.items.proofs.CountLaws.{kind_same, kind_other, lent_is}
use Rattle.records.specs.Pieces.{Piece}
use Rattle.records.specs.Written.{body_of}
use Rattle.itemrows.specs.Joined.{field_piece, field_pieces, Totals}

-- ---- one field counted: tag is that of field j as it is read, and kind its kind
module _ (s : List ℕ) (at k j tag kind : ℕ) (named : tag ≡ (field_at s at j).tag) (told : kind ≡ kind_of tag) where
  pub part_long : (f : Field) → LaidOut s at → j < count_at s at → f ≡ field_at s at j → kind ≡ k → f.length - 1 ≡ length (part_at s at k j)
  part_long f laid here read same =
      let is : part_at s at k j ≡ take (f.length - 1) (drop f.start s) =
      part_yes s at k j (kind_same s at k j tag kind named told same) ∙ ap (λ (g : Field). take (g.length - 1) (drop g.start s)) (sym read) in
      sym (ap length is ∙ length-take-le (f.length - 1) (drop f.start s) (rw length-drop (omega (arith, field_ends s at j f laid read here))))

  pub part_short : (kind ≡ k → ⊥) → 0 ≡ length (part_at s at k j)
  part_short other = sym (ap length (part_no s at k j (kind_other s at k j tag kind named told other)))

pub part_most : {s : List ℕ} {at : ℕ} (j : ℕ) (f : Field) → LaidOut s at → j < count_at s at → f ≡ field_at s at j → f.length - 1 ≤ 300000
part_most {s} {at} j f laid here read =
    rw read (let within = (laid.inside.fields j here).within in let after = (laid.inside.fields j here).after in let small = laid.inside.small in omega arith)

-- ---- one field copied: f is field j as it is read, and kind its kind
module _ (s : List ℕ) (at k j kind : ℕ) (f : Field) (read : f ≡ field_at s at j) (told : kind ≡ kind_of f.tag) where
  named : f.tag ≡ (field_at s at j).tag
  named = ap (λ (g : Field). g.tag) read

  part_lent : kind ≡ k → take (f.start + (f.length - 1) - f.start) (drop f.start s) ≡ part_at s at k j
  part_lent same = lent_is s at j f read ∙ sym (part_yes s at k j (kind_same s at k j f.tag kind named told same))

  pub part_room : (p n : ℕ) → kind ≡ k → p + length (part_at s at k j) ≤ n → p + length (take (f.start + (f.length - 1) - f.start) (drop f.start s)) ≤ n
  part_room p n same room = rw (part_lent same) room

  pub part_copied : {a b : List ℕ} {p r : ℕ} → kind ≡ k → Wrote a p (take (f.start + (f.length - 1) - f.start) (drop f.start s)) b r
      → Wrote a p (part_at s at k j) b r
  part_copied same w = wrote_as (part_at s at k j) (part_lent same) w

  pub part_passed : (a : List ℕ) (p : ℕ) → (kind ≡ k → ⊥) → p + length (part_at s at k j) ≤ length a → Wrote a p (part_at s at k j) a p
  part_passed a p other room =
      wrote_as (part_at s at k j) (sym (part_no s at k j (kind_other s at k j f.tag kind named told other))) (wrote_none a p (omega arith))

-- ---- where the next field is due
pub due_start : {s : List ℕ} {at : ℕ} (h : Head) → LaidOut s at → HeadOf s at h → Due s at 0 (at + h.base)
due_start {s} {at} h laid head = record { is = λ here. ap (λ (n : ℕ). at + n) head.base ∙ sym laid.inside.front }

pub due_on : {s : List ℕ} {at : ℕ} (j : ℕ) (f : Field) → LaidOut s at → f ≡ field_at s at j → Due s at (j + 1) (f.start + f.length)
due_on j f laid read = record { is = λ more. rw read (sym (laid.inside.gapless j more)) }

-- ---- all fields
pub total_start : (s : List ℕ) (at k : ℕ) → length (list_at s at k) ≡ 0 + length (join_from (count_at s at - 0) s at k 0)
total_start s at k = let e = ap length (join_all s at k) in omega arith

module _ (s : List ℕ) (at k j fields : ℕ) (all : fields ≡ count_at s at) where
  module _ (here : j < fields) where
    below : j < count_at s at
    below = rw (← all) here

    next_long : length (join_from (count_at s at - j) s at k j) ≡ length (part_at s at k j) + length (join_from (count_at s at - (j + 1)) s at k (j + 1))
    next_long = ap length (join_next s at k j below) ∙ length-append (part_at s at k j) (join_from (count_at s at - (j + 1)) s at k (j + 1))

    pub total_on : (n t : ℕ) → length (list_at s at k) ≡ n + length (join_from (count_at s at - j) s at k j) → t ≡ length (part_at s at k j)
        → length (list_at s at k) ≡ n + t + length (join_from (count_at s at - (j + 1)) s at k (j + 1))
    total_on n t so e = omega (arith, next_long)

    -- a list is no longer than a record
    pub total_few : (n t : ℕ) → LaidOut s at → length (list_at s at k) ≡ n + length (join_from (count_at s at - j) s at k j) → t ≡ length (part_at s at k j) → n + t ≤ 300000
    total_few n t laid so e = let small = laid.inside.small in omega (arith, next_long, list_short s at k laid)

    pub list_room : {a b all : List ℕ} {p q : ℕ} → Going a p all b q (join_from (count_at s at - j) s at k j) → p + length all ≤ length a
        → q + length (part_at s at k j) ≤ length b
    list_room g room = omega (arith, going_room g room, next_long)

    pub list_on : {a b d all : List ℕ} {p q r : ℕ} → Going a p all b q (join_from (count_at s at - j) s at k j) → Wrote b q (part_at s at k j) d r
        → Going a p all d r (join_from (count_at s at - (j + 1)) s at k (j + 1))
    list_on g w = going_step (part_at s at k j) (join_from (count_at s at - (j + 1)) s at k (j + 1)) g (join_next s at k j below) w

  module _ (past : fields ≤ j) where
    pub total_end : (n : ℕ) → length (list_at s at k) ≡ n + length (join_from (count_at s at - j) s at k j) → n ≡ length (list_at s at k)
    total_end n so = let none = ap length (join_end s at k j (rw (← all) past)) in omega arith

    pub list_end : {a b all : List ℕ} {p q : ℕ} → Going a p all b q (join_from (count_at s at - j) s at k j) → Wrote a p all b q
    list_end g = going_end g (join_end s at k j (rw (← all) past))

pub list_start : (s : List ℕ) (at k : ℕ) (a : List ℕ) (p : ℕ) → p + length (list_at s at k) ≤ length a
    → Going a p (list_at s at k) a p (join_from (count_at s at - 0) s at k 0)
list_start s at k a p room = rw (join_all s at k) (going_start a p (list_at s at k) (omega arith))

-- ---- the four lists
four : (P : ℕ → Type 0) → P 0 → P 1 → P 2 → P 3 → (i : ℕ) → i < 4 → P i
four P a b c d zero h = a
four P a b c d (suc zero) h = b
four P a b c d (suc (suc zero)) h = c
four P a b c d (suc (suc (suc zero))) h = d
four P a b c d (suc (suc (suc (suc i)))) h = absurd (omega arith)

small_four : (a b c d : ℕ) → a ≤ 300000 → b ≤ 300000 → c ≤ 300000 → d ≤ 300000 → (i : ℕ) → get_or (a ∷ b ∷ c ∷ d ∷ []) i 0 ≤ 300000
small_four a b c d ha hb hc hd zero = ha
small_four a b c d ha hb hc hd (suc zero) = hb
small_four a b c d ha hb hc hd (suc (suc zero)) = hc
small_four a b c d ha hb hc hd (suc (suc (suc zero))) = hd
small_four a b c d ha hb hc hd (suc (suc (suc (suc i)))) = omega arith

pub totals_are : (s : List ℕ) (at : ℕ) (kinds : List ℕ) (a b c d : ℕ)
    → (a ≡ length (list_at s at (get_or kinds 0 0))) × (a ≤ 300000) → (b ≡ length (list_at s at (get_or kinds 1 0))) × (b ≤ 300000)
    → (c ≡ length (list_at s at (get_or kinds 2 0))) × (c ≤ 300000) → (d ≡ length (list_at s at (get_or kinds 3 0))) × (d ≤ 300000)
    → Totals s at kinds (a ∷ b ∷ c ∷ d ∷ [])
totals_are s at kinds a b c d ha hb hc hd = record {
  is = four (λ i. get_or (a ∷ b ∷ c ∷ d ∷ []) i 0 ≡ length (list_at s at (get_or kinds i 0))) ha.0 hb.0 hc.0 hd.0;
  small = record { each = small_four a b c d ha.1 hb.1 hc.1 hd.1 };
  four = refl;
}

-- ---- a list as a field
body_none : (k : ℕ) (bs : List ℕ) → 0 ≡ length bs → body_of (field_piece k bs) ≡ []
unfolding body_of field_piece
body_none k [] e = refl
body_none k (b ∷ bs) e = absurd (omega arith)

body_some : (k : ℕ) (bs : List ℕ) → (length bs ≡ 0 → ⊥) → body_of (field_piece k bs) ≡ bs ++ (30 ∷ [])
unfolding body_of field_piece
body_some k [] ne = absurd (ne refl)
body_some k (b ∷ bs) ne = refl

body_least : (k : ℕ) (bs : List ℕ) → length bs ≤ length (body_of (field_piece k bs))
unfolding body_of field_piece
body_least k [] = omega arith
body_least k (b ∷ bs) = omega (arith, length-append (b ∷ bs) (30 ∷ []))

pub field_room : (k : ℕ) (bs : List ℕ) (p n : ℕ) → p + length (body_of (field_piece k bs)) ≤ n → p + length bs ≤ n
field_room k bs p n room = omega (arith, body_least k bs)

module _ (k t : ℕ) (bs : List ℕ) (long : t ≡ length bs) where
  pub field_none : (a : List ℕ) (p : ℕ) → t ≡ 0 → p + length (body_of (field_piece k bs)) ≤ length a → Wrote a p (body_of (field_piece k bs)) a p
  field_none a p none room = wrote_as (body_of (field_piece k bs)) (sym (body_none k bs (sym none ∙ long))) (wrote_none a p (omega arith))

  module _ (some : t ≡ 0 → ⊥) where
    body_is : body_of (field_piece k bs) ≡ bs ++ (30 ∷ [])
    body_is = body_some k bs (λ (z : length bs ≡ 0). some (long ∙ z))

    body_long : length (body_of (field_piece k bs)) ≡ length bs + 1
    body_long = ap length body_is ∙ length-append bs (30 ∷ [])

    pub field_last : {a b : List ℕ} {p q : ℕ} → p + length (body_of (field_piece k bs)) ≤ length a → Wrote a p bs b q → q + 1 ≤ length b
    field_last room w = omega (arith, body_long, w.end, wrote_length w)

    pub field_put : {a b d : List ℕ} {p q r : ℕ} → Wrote a p bs b q → Wrote b q (bytes_of 1 30) d r → Wrote a p (body_of (field_piece k bs)) d r
    unfolding bytes_of
    field_put w x = wrote_as (body_of (field_piece k bs)) (sym body_is) (wrote_join w x)

pub body_append : (fs gs : List Piece) → body_of (fs ++ gs) ≡ body_of fs ++ body_of gs
unfolding body_of
body_append [] gs = refl
body_append (f ∷ fs) gs = rw (body_append fs gs) (sym (append_assoc f.content (30 ∷ body_of fs) (body_of gs)))

-- ---- one field a list
module _ {s : List ℕ} {at : ℕ} {kinds totals : List ℕ} (tot : Totals s at kinds totals) (i : ℕ) (here : i < 4) where
  pub total_is : get_or totals i 0 ≡ length (list_at s at (get_or kinds i 0))
  total_is = tot.is i here

module _ (kinds : List ℕ) (bytes : ℕ → List ℕ) (i : ℕ) (here : i < 4) (long : length kinds ≡ 4) where
  fields_next : body_of (field_pieces (drop i kinds) bytes) ≡ body_of (field_piece (get_or kinds i 0) (bytes (get_or kinds i 0))) ++ body_of (field_pieces (drop (i + 1) kinds) bytes)
  unfolding field_pieces
  fields_next =
      rw (drop-cons kinds i 0 (omega arith), add-one i) (body_append (field_piece (get_or kinds i 0) (bytes (get_or kinds i 0))) (field_pieces (drop (suc i) kinds) bytes))

  pub fields_room : {a b all : List ℕ} {p q : ℕ} → Going a p all b q (body_of (field_pieces (drop i kinds) bytes)) → p + length all ≤ length a
      → q + length (body_of (field_piece (get_or kinds i 0) (bytes (get_or kinds i 0)))) ≤ length b
  fields_room g room =
      let r = going_room g room in
      let one = body_of (field_piece (get_or kinds i 0) (bytes (get_or kinds i 0))) in
      let e = ap length fields_next ∙ length-append one (body_of (field_pieces (drop (i + 1) kinds) bytes)) in
      omega arith

  pub fields_on : {a b d all : List ℕ} {p q r : ℕ} → Going a p all b q (body_of (field_pieces (drop i kinds) bytes))
      → Wrote b q (body_of (field_piece (get_or kinds i 0) (bytes (get_or kinds i 0)))) d r → Going a p all d r (body_of (field_pieces (drop (i + 1) kinds) bytes))
  fields_on g w =
      going_step (body_of (field_piece (get_or kinds i 0) (bytes (get_or kinds i 0)))) (body_of (field_pieces (drop (i + 1) kinds) bytes)) g fields_next w

pub fields_end : {a b all : List ℕ} {p q : ℕ} (kinds : List ℕ) (bytes : ℕ → List ℕ) (i : ℕ) → Going a p all b q (body_of (field_pieces (drop i kinds) bytes))
    → 4 ≤ i → length kinds ≡ 4 → Wrote a p all b q
unfolding field_pieces body_of
fields_end kinds bytes i g h long = going_end g (rw (drop_of_length-le kinds {i = i} (omega arith)))
