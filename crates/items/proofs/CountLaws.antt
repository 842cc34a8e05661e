-- Laws of the code that counts a list's entries, field by field. Assumes nothing.
use Prim.Native.Nat.{ℕ, ◌+◌, ◌-◌, ◌/◌, ◌≤◌, ◌<◌}
use mathlib.Core.Bool.{true}
use mathlib.Core.List.{List}
use mathlib.Core.Path.{◌≡◌, sym, ap, ◌∙◌}
use native.Mathlib.Omega.{arith}
use lib.ListN.{length, take, drop, length-append}
use Rattle.iso8211.specs.Field.{count_at, field_at}
use Rattle.iso8211.specs.declared.field.Field.{Field}
use Rattle.entries.specs.declared.Shape.{Shape}
use Rattle.entries.specs.declared.Extent.{Extent}
use Rattle.entries.specs.Entries.{entries_of, extent_of}
use Rattle.entries.specs.Premises.{Sound}
use Rattle.entries.proofs.EntriesLaws.{entries_nil}
use Rattle.entries.proofs.PlaceLaws.{bare_count}
use Rattle.table.specs.Table.{row_of, kind_of}
use Rattle.layout.specs.Layout.{shape_of}
use Rattle.layout.specs.Record.{kind_at, content_at}
use Rattle.items.specs.Premises.{LaidOut}
use Rattle.items.specs.Lists.{part_at, join_from, entries_at}
use Rattle.layout.proofs.Promise.{content_length}
use Rattle.items.proofs.ListsLaws.{part_yes, part_no, entries_next, entries_end, entries_all, list_few}

-- ---- a field by its tag as it is read: t is the tag of field j, and n its kind
module _ (s : List ℕ) (at k j t n : ℕ) (tagged : t ≡ (field_at s at j).tag) (kind : n ≡ kind_of t) where
  kind_read : n ≡ kind_at s at j
  kind_read = kind ∙ ap kind_of tagged

  pub kind_same : n ≡ k → kind_at s at j ≡ k
  kind_same e = sym kind_read ∙ e

  pub kind_other : (n ≡ k → ⊥) → kind_at s at j ≡ k → ⊥
  kind_other ne e = ne (kind_read ∙ e)

  pub part_uncounted : (n ≡ k → ⊥) → 0 ≡ length (entries_of (shape_of k) (part_at s at k j))
  part_uncounted ne = rw (part_no s at k j (kind_other ne), entries_nil (shape_of k))

-- the bytes that are lent of it, f being the field
pub lent_is : (s : List ℕ) (at j : ℕ) (f : Field) → f ≡ field_at s at j
    → take (f.start + (f.length - 1) - f.start) (drop f.start s) ≡ content_at s at j
lent_is s at j f read =
    let long : f.start + (f.length - 1) - f.start ≡ f.length - 1 = omega arith in
    rw (long, read)

module _ (s : List ℕ) (at k j t n : ℕ) (f : Field) (tagged : t ≡ (field_at s at j).tag) (kind : n ≡ kind_of t) (same : n ≡ k) (read : f ≡ field_at s at j)
    (sh : Shape) (shape : sh ≡ shape_of k) where
  pub part_counted : (all : Extent) → all ≡ extent_of sh (take (f.start + (f.length - 1) - f.start) (drop f.start s))
      → all.count ≡ length (entries_of (shape_of k) (part_at s at k j))
  part_counted all is =
      ap (λ (x : Extent). x.count) is
      ∙ ap (λ (l : List ℕ). length (entries_of sh l)) (lent_is s at j f read ∙ sym (part_yes s at k j (kind_same s at k j t n tagged kind same)))
      ∙ ap (λ (x : Shape). length (entries_of x (part_at s at k j))) shape

  pub part_divided : LaidOut s at → j < count_at s at → Sound sh → sh.unit ≡ 0 → (f.length - 1) / sh.fixed ≡ length (entries_of (shape_of k) (part_at s at k j))
  part_divided laid less sound bare =
      let long : f.length - 1 ≡ length (content_at s at j) = rw read (omega (arith, content_length s at j laid.inside less)) in
      ap (λ (m : ℕ). m / sh.fixed) long
      ∙ sym (bare_count sh bare sound.some (content_at s at j))
      ∙ ap (λ (l : List ℕ). length (entries_of sh l)) (sym (part_yes s at k j (kind_same s at k j t n tagged kind same)))
      ∙ ap (λ (x : Shape). length (entries_of x (part_at s at k j))) shape

-- ---- turns of the count: n entries stand in the fields before field j, of m fields
pub count_start : (s : List ℕ) (at k : ℕ) → length (entries_at s at k) ≡ 0 + length (entries_of (shape_of k) (join_from (count_at s at - 0) s at k 0))
count_start s at k = omega (arith, ap length (entries_all s at k))

module _ (s : List ℕ) (at k j n m : ℕ) (laid : LaidOut s at) (list : (row_of k).list ≡ true) (all : m ≡ count_at s at)
    (so : length (entries_at s at k) ≡ n + length (entries_of (shape_of k) (join_from (count_at s at - j) s at k j))) where
  pub count_end : m ≤ j → (n ≡ length (entries_at s at k)) × (n ≤ length s)
  count_end h =
      let none = ap length (entries_end s at k j (omega arith)) in
      let few = list_few s at k laid in
      (omega arith, omega arith)

  module _ (r : ℕ) (more : j < m) (told : r ≡ length (entries_of (shape_of k) (part_at s at k j))) where
    pub count_on : length (entries_at s at k) ≡ n + r + length (entries_of (shape_of k) (join_from (count_at s at - (j + 1)) s at k (j + 1)))
    count_on =
        let here = entries_of (shape_of k) (part_at s at k j) in
        let rest = entries_of (shape_of k) (join_from (count_at s at - (j + 1)) s at k (j + 1)) in
        let next = ap length (entries_next s at k laid list j (omega arith)) in
        omega (arith, next, length-append here rest)

    pub count_room : n + r ≤ length s
    count_room = omega (arith, count_on, list_few s at k laid)
