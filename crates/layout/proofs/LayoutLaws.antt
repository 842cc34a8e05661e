-- Laws of the layout: the ways through one field, and the turns of the walk over a record's fields. Assumes nothing.
use Prim.Native.Nat.{ℕ, suc, ◌+◌, ◌-◌, ◌≤◌, ◌<◌}
use mathlib.Core.Bool.{Bool, true, false, not, cond}
use mathlib.Core.List.{List}
use mathlib.Core.Path.{◌≡◌, sym, ◌∙◌}
use native.Mathlib.Nat.{sub-zero}
use native.Mathlib.Omega.{arith}
use lib.ListN.{length, take, drop, get_or}
use lib.Dec.{eqb}
use borrow.Author.Tests.{ne_eqb, eq-eqb}
use Rattle.octets.proofs.Tests.{told_no, told_yes, then_same, else_same}
use Rattle.iso8211.specs.Record.{end_of}
use Rattle.iso8211.specs.Field.{count_at, field_at, FieldIn}
use Rattle.iso8211.specs.Premises.{RecordIn}
use Rattle.std.specs.Prelude.{Ok, Err}
use Rattle.values.specs.Fault.{told_place}
use Rattle.values.proofs.FaultLaws.{place_ok, place_err}
use Rattle.entries.specs.Entries.{whole_good}
use Rattle.iso8211.specs.declared.field.Field.{Field}
use Rattle.table.specs.Table.{row_of, kind_of, kind_row}
use Rattle.table.specs.declared.Kind.{Kind}
use Rattle.layout.specs.Layout.{placed, filled, field_laid, may_end, laid_from, layout_fault, start}

-- ---- what fills a field that is neither DSID nor DSPM, from the row in hand
module _ (k : ℕ) (c : List ℕ) (row : Kind) (told : row ≡ kind_row k) (one : k ≡ 0 → ⊥) (two : k ≡ 2 → ⊥) where
  pub filled_list : (r : Bool) → row.list ≡ true → r ≡ whole_good (record { fixed = row.fixed; unit = row.unit }) c → r ≡ filled k c
  unfolding filled
  filled_list r list e =
      let is : (row_of k).list ≡ true = rw told at list in
      rw (ne_eqb k 0 one, ne_eqb k 2 two, is) (rw told at e)

  pub filled_single : row.list ≡ false → eqb (length c) row.fixed ≡ filled k c
  unfolding filled
  filled_single list =
      let not_list : (row_of k).list ≡ false = rw told at list in
      rw (told, ne_eqb k 0 one, ne_eqb k 2 two, not_list)

-- ---- where a field lies
module _ (s : List ℕ) (at j count : ℕ) (known : RecordIn s at) (all : count ≡ count_at s at) (more : j < count) (f : Field) (read : f ≡ field_at s at j) where
  field_known : FieldIn s at (end_of s at) f
  field_known = rw read (known.fields j (omega arith))

  pub field_long : 1 ≤ f.length
  field_long = field_known.long

  pub field_fits : f.start + f.length ≤ length s
  field_fits = let k = field_known.within in let e = known.framed.fits in omega arith

  pub start_within : f.start ≤ length s
  start_within = let k = field_fits in omega arith

-- ---- one field, of kind k
module _ (update : Bool) (stage : ℕ) (marks s : List ℕ) (prev : ℕ) (f : Field) (k : ℕ) (kind : k ≡ kind_of f.tag) (r : Bool) (told : r ≡ placed update stage prev k) where
  pub field_misplaced : not r ≡ true → false ≡ field_laid update stage marks s prev f
  unfolding field_laid
  field_misplaced h = rw (← kind, told_no r _ told h)

  module _ (good : not r ≡ false) where
    pub field_undeclared : (get_or marks k 0 ≡ 1 → ⊥) → false ≡ field_laid update stage marks s prev f
    unfolding field_laid
    field_undeclared h = rw (← kind, told_yes r _ told good, ne_eqb _ _ h)

    pub field_full : (b : Bool) → get_or marks k 0 ≡ 1 → b ≡ filled k (take (f.start + (f.length - 1) - f.start) (drop f.start s)) → b ≡ field_laid update stage marks s prev f
    unfolding field_laid
    field_full b h e =
        let n : f.start + (f.length - 1) - f.start ≡ f.length - 1 = omega arith in
        rw (← kind, told_yes r _ told good, eq-eqb _ _ h) (rw n at e)

-- ---- the walk over the fields
-- before the first field
pub laid_start : (update : Bool) (stage : ℕ) (marks s : List ℕ) (at : ℕ) → layout_fault update stage marks s at ≡ laid_from (count_at s at - 0) update stage marks s at 0 start
unfolding layout_fault
laid_start update stage marks s at = rw sub-zero

laid_next : (n m : ℕ) (update : Bool) (stage : ℕ) (marks s : List ℕ) (at j prev : ℕ) → n ≡ suc m
    → laid_from n update stage marks s at j prev
    ≡ cond (field_laid update stage marks s prev (field_at s at j)) (laid_from m update stage marks s at (j + 1) (kind_of (field_at s at j).tag)) (field_at s at j).start
unfolding laid_from
laid_next n m update stage marks s at j prev e = rw e

laid_end : (n : ℕ) (update : Bool) (stage : ℕ) (marks s : List ℕ) (at j prev : ℕ) → n ≡ 0 → laid_from n update stage marks s at j prev ≡ cond (may_end prev) 0 (end_of s at)
unfolding laid_from
laid_end n update stage marks s at j prev e = rw e

module _ (update : Bool) (stage : ℕ) (marks s : List ℕ) (at j prev count : ℕ) (all : count ≡ count_at s at)
    (so : layout_fault update stage marks s at ≡ laid_from (count_at s at - j) update stage marks s at j prev) where
  -- a field of the record
  module _ (more : j < count) (f : Field) (read : f ≡ field_at s at j) (r : Bool) (told : r ≡ field_laid update stage marks s prev f) where
    opened : layout_fault update stage marks s at
        ≡ cond (field_laid update stage marks s prev f) (laid_from (count_at s at - (j + 1)) update stage marks s at (j + 1) (kind_of f.tag)) f.start
    opened = rw read (so ∙ laid_next (count_at s at - j) (count_at s at - (j + 1)) update stage marks s at j prev (omega arith))

    pub turn_wrong : RecordIn s at → not r ≡ true → Err (record { at = f.start }) ≡ told_place (layout_fault update stage marks s at)
    turn_wrong known h =
        let i = field_known s at j count known all more f read in
        let after = i.after in
        let first = known.framed.headed.low in
        place_err _ (opened ∙ else_same _ _ _ (told_no r _ told h)) (λ z. omega arith)

    pub turn_on : (k : ℕ) → k ≡ kind_of f.tag → not r ≡ false → layout_fault update stage marks s at ≡ laid_from (count_at s at - (j + 1)) update stage marks s at (j + 1) k
    turn_on k kind h = rw kind (opened ∙ then_same _ _ _ (told_yes r _ told h))

  -- behind the last field
  module _ (done : count ≤ j) (r : Bool) (told : r ≡ may_end prev) where
    closed : layout_fault update stage marks s at ≡ cond (may_end prev) 0 (end_of s at)
    closed = so ∙ laid_end (count_at s at - j) update stage marks s at j prev (omega arith)

    pub end_missing : (e : ℕ) → RecordIn s at → e ≡ end_of s at → not r ≡ true → Err (record { at = e }) ≡ told_place (layout_fault update stage marks s at)
    end_missing e known end h =
        let low = known.framed.headed.low in
        let high = known.framed.high in
        place_err _ (closed ∙ else_same _ _ _ (told_no r _ told h) ∙ sym end) (λ z. omega arith)

    pub end_good_lem : not r ≡ false → 0 ≡ layout_fault update stage marks s at
    end_good_lem h = sym (closed ∙ then_same _ _ _ (told_yes r _ told h))

    pub end_well : not r ≡ false → Ok tt ≡ told_place (layout_fault update stage marks s at)
    end_well h = place_ok (sym (end_good_lem h))
