-- Laws of the lists of a record: the equations of their parts, that whole entries fill them, and that they fit into the record.
-- Assumes nothing.
use Prim.Native.Nat.{ℕ, zero, suc, ◌+◌, ◌-◌, ◌≤◌, ◌<◌}
use mathlib.Core.Bool.{true}
use mathlib.Core.List.{List, [], ◌++◌, flatten, append-nil}
use mathlib.Core.Logic.{⊎_elim}
use mathlib.Core.Path.{◌≡◌, sym, ap, ◌∙◌}
use native.Mathlib.Nat.{sub-zero}
use native.Mathlib.Omega.{arith}
use lib.ListN.{length, length-append, length-take}
use borrow.Author.Tests.{eq-eqb, ne_eqb}
use Rattle.octets.proofs.Cases.{eq_or_ne}
use Rattle.iso8211.specs.Field.{count_at, field_at}
use Rattle.iso8211.specs.declared.field.Field.{Field}
use Rattle.entries.specs.declared.Shape.{Shape}
use Rattle.entries.specs.Entries.{entries_of}
use Rattle.entries.specs.Premises.{Whole}
use Rattle.entries.proofs.EntriesLaws.{entries_nil, entries_append, whole_append, count_few}
use Rattle.table.specs.Table.{row_of}
use Rattle.layout.specs.Layout.{shape_of, filled}
use Rattle.layout.specs.Record.{kind_at, content_at}
use Rattle.items.specs.Premises.{LaidOut}
use Rattle.items.specs.Lists.{part_at, join_from, list_at, entries_at}
use Rattle.layout.proofs.Promise.{full_list}

-- ---- the parts
pub part_yes : (s : List ℕ) (at k j : ℕ) → kind_at s at j ≡ k → part_at s at k j ≡ content_at s at j
unfolding part_at
part_yes s at k j e = rw (eq-eqb (kind_at s at j) k e)

pub part_no : (s : List ℕ) (at k j : ℕ) → (kind_at s at j ≡ k → ⊥) → part_at s at k j ≡ []
unfolding part_at
part_no s at k j ne = rw (ne_eqb (kind_at s at j) k ne)

-- ---- what the fields from field j on bring
join_none : (n : ℕ) (s : List ℕ) (at k j : ℕ) → n ≡ 0 → join_from n s at k j ≡ []
unfolding join_from
join_none n s at k j e = rw e

join_more : (n m : ℕ) (s : List ℕ) (at k j : ℕ) → n ≡ suc m → join_from n s at k j ≡ part_at s at k j ++ join_from m s at k (j + 1)
unfolding join_from
join_more n m s at k j e = rw e

pub join_end : (s : List ℕ) (at k j : ℕ) → count_at s at ≤ j → join_from (count_at s at - j) s at k j ≡ []
join_end s at k j h = join_none (count_at s at - j) s at k j (omega arith)

pub join_next : (s : List ℕ) (at k j : ℕ) → j < count_at s at
    → join_from (count_at s at - j) s at k j ≡ part_at s at k j ++ join_from (count_at s at - (j + 1)) s at k (j + 1)
join_next s at k j h = join_more (count_at s at - j) (count_at s at - (j + 1)) s at k j (omega arith)

pub join_all : (s : List ℕ) (at k : ℕ) → join_from (count_at s at - 0) s at k 0 ≡ list_at s at k
unfolding list_at
join_all s at k = rw (sub-zero (count_at s at))

-- ---- whole entries
pub whole_none : (sh : Shape) → Whole sh []
unfolding flatten
whole_none sh = record { is = rw (entries_nil sh) }

module _ (s : List ℕ) (at k : ℕ) (laid : LaidOut s at) (list : (row_of k).list ≡ true) where
  -- a field of the list's kind holds an entry or more
  pub field_whole : (j : ℕ) → j < count_at s at → kind_at s at j ≡ k
      → Whole (shape_of k) (content_at s at j) × (1 ≤ length (entries_of (shape_of k) (content_at s at j)))
  field_whole j h e =
      let full : filled k (content_at s at j) ≡ true = ap (λ (q : ℕ). filled q (content_at s at j)) (sym e) ∙ laid.fills j h in
      full_list k (content_at s at j) list full

  pub part_whole : (j : ℕ) → j < count_at s at → Whole (shape_of k) (part_at s at k j)
  part_whole j h =
      ⊎_elim
      (λ (e : kind_at s at j ≡ k). rw (part_yes s at k j e) (field_whole j h e).0)
      (λ (ne : kind_at s at j ≡ k → ⊥). rw (part_no s at k j ne) (whole_none (shape_of k)))
      (eq_or_ne (kind_at s at j) k)

  pub join_whole : (n j : ℕ) → j + n ≤ count_at s at → Whole (shape_of k) (join_from n s at k j)
  unfolding join_from
  join_whole zero j h = whole_none (shape_of k)
  join_whole (suc n) j h = whole_append (part_whole j (omega arith)) (join_whole n (j + 1) (omega arith))

  -- a list is filled by its entries
  pub list_whole : Whole (shape_of k) (list_at s at k)
  unfolding list_at
  list_whole = join_whole (count_at s at) 0 (omega arith)

  -- the entries from field j on are those of field j and those behind it
  pub entries_next : (j : ℕ) → j < count_at s at
      → entries_of (shape_of k) (join_from (count_at s at - j) s at k j)
      ≡ entries_of (shape_of k) (part_at s at k j) ++ entries_of (shape_of k) (join_from (count_at s at - (j + 1)) s at k (j + 1))
  entries_next j h =
      ap (λ (l : List ℕ). entries_of (shape_of k) l) (join_next s at k j h)
      ∙ entries_append (join_from (count_at s at - (j + 1)) s at k (j + 1)) (part_whole j h)

-- a field of another kind brings none
pub entries_skip : (s : List ℕ) (at k j : ℕ) → j < count_at s at → (kind_at s at j ≡ k → ⊥)
    → entries_of (shape_of k) (join_from (count_at s at - j) s at k j) ≡ entries_of (shape_of k) (join_from (count_at s at - (j + 1)) s at k (j + 1))
entries_skip s at k j h ne =
    ap (λ (l : List ℕ). entries_of (shape_of k) l)
    (join_next s at k j h ∙ ap (λ (l : List ℕ). l ++ join_from (count_at s at - (j + 1)) s at k (j + 1)) (part_no s at k j ne))

-- behind the last field there are none
pub entries_end : (s : List ℕ) (at k j : ℕ) → count_at s at ≤ j → entries_of (shape_of k) (join_from (count_at s at - j) s at k j) ≡ []
entries_end s at k j h = ap (λ (l : List ℕ). entries_of (shape_of k) l) (join_end s at k j h) ∙ entries_nil (shape_of k)

-- from the first field on they are all
pub entries_all : (s : List ℕ) (at k : ℕ) → entries_of (shape_of k) (join_from (count_at s at - 0) s at k 0) ≡ entries_at s at k
unfolding entries_at
entries_all s at k = ap (λ (l : List ℕ). entries_of (shape_of k) l) (join_all s at k)

-- ---- a field as it is read, and the bytes that are lent of it
module _ (s : List ℕ) (at j : ℕ) (f : Field) (laid : LaidOut s at) (read : f ≡ field_at s at j) (h : j < count_at s at) where
  pub field_some : 1 ≤ f.length
  field_some = rw read (laid.inside.fields j h).long

  pub field_fits : f.start + f.length ≤ length s
  field_fits = rw read (let within = (laid.inside.fields j h).within in let fits = laid.inside.fits in omega arith)

  -- where the closing 1E stands
  pub field_ends : f.start + (f.length - 1) ≤ length s
  field_ends = omega (arith, field_fits)

-- ---- a list fits into its record
part_short : (s : List ℕ) (at k j : ℕ) → length (part_at s at k j) ≤ (field_at s at j).length
part_short s at k j =
    ⊎_elim
    (λ (e : kind_at s at j ≡ k). rw (part_yes s at k j e, length-take) (omega arith))
    (λ (ne : kind_at s at j ≡ k → ⊥). rw (part_no s at k j ne) (omega arith))
    (eq_or_ne (kind_at s at j) k)

module _ (s : List ℕ) (at k : ℕ) (laid : LaidOut s at) where
  join_short : (n j : ℕ) → j + suc n ≡ count_at s at → (field_at s at j).start + length (join_from (suc n) s at k j) ≤ laid.inside.end
  unfolding join_from
  join_short zero j e =
      let inside = laid.inside.fields j (omega arith) in
      let within = inside.within in
      rw (append-nil (part_at s at k j)) (omega (arith, part_short s at k j))
  join_short (suc n) j e =
      let rest = join_short n (j + 1) (omega arith) in
      let next = laid.inside.gapless j (omega arith) in
      rw (length-append (part_at s at k j)) (omega (arith, part_short s at k j))

  pub list_short : at + length (list_at s at k) ≤ laid.inside.end
  unfolding list_at
  list_short =
      let two = laid.two in
      let one : count_at s at ≡ suc (count_at s at - 1) = omega arith in
      let short = join_short (count_at s at - 1) 0 (omega arith) in
      let inside = laid.inside.fields 0 (omega arith) in
      let after = inside.after in
      let same : length (join_from (count_at s at) s at k 0) ≡ length (join_from (suc (count_at s at - 1)) s at k 0) =
      ap (λ (n : ℕ). length (join_from n s at k 0)) one in
      omega arith

  pub list_fits : length (list_at s at k) ≤ length s
  list_fits = let fits = laid.inside.fits in omega (arith, list_short)

  -- and has no more entries than bytes
  pub list_few : length (entries_at s at k) ≤ length s
  unfolding entries_at
  list_few = omega (arith, list_fits, count_few (shape_of k) (list_at s at k))
