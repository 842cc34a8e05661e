-- Laws of the step through a list: what a step answers, and turns of a rule on each entry and of a state taken through them, where
-- "the answer from here is the answer from the start". Assumes nothing.
use Prim.Native.Nat.{ℕ, zero, suc, ◌+◌, ◌-◌, ◌≤◌, ◌<◌}
use mathlib.Core.Bool.{Bool, true, false, not, ◌&&◌}
use mathlib.Core.List.{List, [], ◌∷◌, ◌++◌}
use mathlib.Core.Path.{◌≡◌, refl, sym, ap, ◌∙◌}
use native.Mathlib.Nat.{sub-zero}
use native.Mathlib.Omega.{arith}
use lib.ListN.{length, take, drop, length-take, length-drop}
use lib.Seq.{take-take, take-nil, drop-drop}
use Rattle.std.specs.Prelude.{Option, Some, None}
use Rattle.octets.proofs.Tests.{told_no, told_yes}
use Rattle.iso8211.specs.Field.{count_at, field_at}
use Rattle.iso8211.specs.declared.field.Field.{Field}
use Rattle.entries.specs.declared.Shape.{Shape}
use Rattle.entries.specs.Entries.{entry_len, entries_of, Each, each_none, each_more}
use Rattle.entries.specs.Entries as entry
use Rattle.entries.specs.Rules.{all_of, through}
use Rattle.entries.proofs.EntryLaws.{entry_within, entry_least, fixed_long}
use Rattle.entries.proofs.EntriesLaws.{entries_nil, each_entries, count_few}
use Rattle.entries.proofs.WalkLaws.{walk_some, walk_more, walk_whole}
use Rattle.table.specs.Table.{row_of, kind_of}
use Rattle.layout.specs.Layout.{shape_of}
use Rattle.layout.specs.Record.{content_at}
use Rattle.items.specs.Premises.{LaidOut}
use Rattle.items.specs.Lists.{part_at, join_from, entries_at}
use Rattle.items.specs.Cursors.{left, CursorIn, Settled, Stepped}
use Rattle.items.specs.declared.cursor.Cursor.{Cursor}
use Rattle.items.proofs.ListsLaws.{part_yes, whole_none, field_whole, entries_next, entries_skip, entries_end, entries_all}
use Rattle.items.proofs.CountLaws.{kind_same, kind_other, lent_is}

-- ---- a part of a part
drop_taken : (n m : ℕ) (l : List ℕ) → drop n (take m l) ≡ take (m - n) (drop n l)
drop_taken zero m l = rw (sub-zero m)
drop_taken (suc n) zero l = let none : 0 - suc n ≡ 0 = omega arith in rw none
drop_taken (suc n) (suc m) [] = sym (take-nil (suc m - suc n))
drop_taken (suc n) (suc m) (x ∷ l) = let less : suc m - suc n ≡ m - n = omega arith in rw less (drop_taken n m l)

-- ---- a cursor whose bytes are used up
pub spent_part : (s : List ℕ) (from to : ℕ) → to ≤ from → take (to - from) (drop from s) ≡ []
spent_part s from to h = let none : to - from ≡ 0 = omega arith in rw none

pub spent_left : (s : List ℕ) (at k : ℕ) (c : Cursor) → c.to ≤ c.from
    → left s at k c ≡ entries_of (shape_of k) (join_from (count_at s at - c.field) s at k c.field)
unfolding left
spent_left s at k c h = rw (spent_part s c.from c.to h, entries_nil (shape_of k))

-- ---- the cursor before the first entry
pub begin_left : (s : List ℕ) (at k : ℕ) (c : Cursor) → c ≡ record { field = 0; from = 0; to = 0 } → left s at k c ≡ entries_at s at k
begin_left s at k c e = rw e (spent_left s at k (record { field = 0; from = 0; to = 0 }) (omega arith) ∙ entries_all s at k)

pub begin_in : (s : List ℕ) (at k : ℕ) (c : Cursor) → c ≡ record { field = 0; from = 0; to = 0 } → CursorIn s at k c
begin_in s at k c e =
    rw e (record { order = omega arith; within = omega arith; below = omega arith; wholly = whole_none (shape_of k) })

-- ---- turns of the search for a field: field is the next to be looked at, of m fields
pub settled_here : (s : List ℕ) (at k : ℕ) (c : Cursor) → CursorIn s at k c → c.from < c.to → Settled s at k c c
settled_here s at k c inside h = record { inside = inside; same = refl; last = λ (e : c.to ≤ c.from). absurd (omega arith) }

module _ (s : List ℕ) (at k field₀ field m : ℕ) (all : m ≡ count_at s at)
    (so : entries_of (shape_of k) (join_from (count_at s at - field₀) s at k field₀) ≡ entries_of (shape_of k) (join_from (count_at s at - field) s at k field)) where
  pub settled_end : (c : Cursor) → CursorIn s at k c → c.to ≤ c.from → c.field ≡ field₀ → m ≤ field
      → Settled s at k c (record { field = m; from = c.to; to = c.to })
  settled_end c inside used first h =
      let within = inside.within in
      let past : Cursor = record { field = m; from = c.to; to = c.to } in
      let none : left s at k past ≡ [] = spent_left s at k past (omega arith) ∙ entries_end s at k m (omega arith) in
      record {
        inside = record { order = omega arith; within = within; below = omega arith; wholly = rw (spent_part s c.to c.to (omega arith)) (whole_none (shape_of k)) };
        same = spent_left s at k c used ∙ rw first (so ∙ entries_end s at k field (omega arith)) ∙ sym none;
        last = λ (e : c.to ≤ c.to). none;
      }

  module _ (t n : ℕ) (more : field < m) (tagged : t ≡ (field_at s at field).tag) (kind : n ≡ kind_of t) where
    pub settled_skip : (n ≡ k → ⊥)
        → entries_of (shape_of k) (join_from (count_at s at - field₀) s at k field₀) ≡ entries_of (shape_of k) (join_from (count_at s at - (field + 1)) s at k (field + 1))
    settled_skip ne = so ∙ entries_skip s at k field (omega arith) (kind_other s at k field t n tagged kind ne)

    pub settled_found : (c : Cursor) (f : Field) → LaidOut s at → (row_of k).list ≡ true → c.to ≤ c.from → c.field ≡ field₀ → n ≡ k → f ≡ field_at s at field
        → Settled s at k c (record { field = field + 1; from = f.start; to = f.start + (f.length - 1) })
    unfolding left
    settled_found c f laid list used first same read =
        let less : field < count_at s at = omega arith in
        let e = kind_same s at k field t n tagged kind same in
        let lent = lent_is s at field f read in
        let whole = field_whole s at k laid list field less e in
        let some = whole.1 in
        let few = count_few (shape_of k) (content_at s at field) in
        let inside = laid.inside.fields field less in
        let within : f.start + f.length ≤ length s = rw read (let w = inside.within in let fits = laid.inside.fits in omega arith) in
        let long : 1 ≤ f.length = rw read inside.long in
        let now : entries_of (shape_of k) (join_from (count_at s at - field₀) s at k field₀)
        ≡ entries_of (shape_of k) (part_at s at k field) ++ entries_of (shape_of k) (join_from (count_at s at - (field + 1)) s at k (field + 1)) =
        so ∙ entries_next s at k laid list field less in
        let bytes : length (content_at s at field) ≡ f.length - 1 = rw (← lent, length-take, length-drop) (omega arith) in
        record {
          inside = record { order = omega arith; within = omega arith; below = omega arith; wholly = rw lent whole.0 };
          same = spent_left s at k c used ∙ rw (first, now, part_yes s at k field e, lent);
          last = λ (w : f.start + (f.length - 1) ≤ f.start). absurd (omega arith);
        }

-- ---- what a step answers, the cursor being settled at d
pub step_none : (s : List ℕ) (at k : ℕ) (c d : Cursor) → Settled s at k c d → d.to ≤ d.from → Stepped s at k c None
unfolding Stepped
step_none s at k c d settled h = settled.same ∙ settled.last h

pub step_some : (s : List ℕ) (at k : ℕ) (c d : Cursor) (sh : Shape) (n : ℕ) → Settled s at k c d → d.from < d.to → sh ≡ shape_of k
    → n ≡ entry_len sh (take (d.to - d.from) (drop d.from s))
    → Stepped s at k c (Some (d.from, d.from + n, record { field = d.field; from = d.from + n; to = d.to }))
unfolding Stepped left
step_some s at k c d sh n settled h shape size =
    let from = d.from in
    let to = d.to in
    let b = take (to - from) (drop from s) in
    let within = settled.inside.within in
    let long : length b ≡ to - from = rw (length-take, length-drop) (omega arith) in
    let is : n ≡ entry_len (shape_of k) b = size ∙ ap (λ (x : Shape). entry_len x b) shape in
    let some : 0 < n = walk_some (shape_of k) b 0 n settled.inside.wholly (omega arith) is in
    let least : n ≤ to - from = omega (arith, entry_within (shape_of k) b) in
    let first : take n b ≡ take (from + n - from) (drop from s) =
    (let z : from + n - from ≡ n = omega arith in rw (z, take-take n (to - from) (drop from s) least)) in
    let rest : drop (0 + n) b ≡ take (to - (from + n)) (drop (from + n) s) =
    (let z : to - (from + n) ≡ to - from - n = omega arith in
    let y : 0 + n ≡ n = omega arith in rw (y, z, ← drop-drop n from s) (drop_taken n (to - from) (drop from s))) in
    let cut = walk_more (shape_of k) b 0 n is (λ (e : n ≡ 0). omega arith) in
    let whole = walk_whole (shape_of k) b 0 n settled.inside.wholly (omega arith) is in (
      settled.same ∙ rw (cut, first, rest),
      omega arith,
      omega arith,
      record { order = omega arith; within = within; below = settled.inside.below; wholly = rw rest at whole },
    )

-- ---- what a caller learns of a step: r is its answer at the cursor c
module _ (s : List ℕ) (at k : ℕ) (c : Cursor) (r : Option (ℕ × ℕ × Cursor)) (stepped : Stepped s at k c r) where
  pub next_done : r ≡ None → left s at k c ≡ []
  unfolding Stepped
  next_done e = rw e at stepped

  module _ (from to : ℕ) (next : Cursor) (is : r ≡ Some (from, to, next)) where
    pub next_left : left s at k c ≡ take (to - from) (drop from s) ∷ left s at k next
    unfolding Stepped
    next_left = (rw is at stepped).0

    pub next_order : from < to
    unfolding Stepped
    next_order = (rw is at stepped).1

    pub next_up : from ≤ to
    next_up = omega (arith, next_order)

    pub next_within : to ≤ length s
    unfolding Stepped
    next_within = (rw is at stepped).2

    pub next_in : CursorIn s at k next
    unfolding Stepped
    next_in = (rw is at stepped).3

    -- a measure of a loop over the list
    pub next_less : length (left s at k next) < length (left s at k c)
    next_less = rw next_left (omega arith)

-- ---- the entry of a step is a whole one
head_entry : {sh : Shape} {e : List ℕ} {es : List (List ℕ)} → Each sh (e ∷ es) → entry.Entry sh e
head_entry (each_more w more) = w

each_join : {sh : Shape} {xs ys : List (List ℕ)} → Each sh xs → Each sh ys → Each sh (xs ++ ys)
each_join each_none w = w
each_join (each_more v more) w = each_more v (each_join more w)

pub left_each : (s : List ℕ) (at k : ℕ) (c : Cursor) → Each (shape_of k) (left s at k c)
unfolding left
left_each s at k c = each_join (each_entries (shape_of k) _) (each_entries (shape_of k) _)

module _ (s : List ℕ) (at k : ℕ) (c : Cursor) (r : Option (ℕ × ℕ × Cursor)) (stepped : Stepped s at k c r) (from to : ℕ) (next : Cursor) (is : r ≡ Some (from, to, next)) where
  pub next_entry : entry.Entry (shape_of k) (take (to - from) (drop from s))
  next_entry = head_entry (rw (next_left s at k c r stepped from to next is) at (left_each s at k c))

  next_size : length (take (to - from) (drop from s)) ≡ to - from
  next_size =
      let order = next_order s at k c r stepped from to next is in
      let within = next_within s at k c r stepped from to next is in
      rw (length-take, length-drop) (omega arith)

  -- it has its fixed bytes
  pub next_long : (n : ℕ) → (row_of k).fixed ≡ n → from + n ≤ to
  next_long n e =
      let whole = next_entry in
      let order = next_order s at k c r stepped from to next is in
      omega (arith, whole.is, next_size, entry_least (shape_of k) (take (to - from) (drop from s)) (omega (arith, whole.is, whole.some)))

  -- the same of the entry as it is lent
  pub next_bytes : (n : ℕ) → (row_of k).fixed ≡ n → n ≤ length (take (to - from) (drop from s))
  next_bytes n e = omega (arith, next_size, next_long n e)

  -- and without a text no others
  pub next_exact : (n : ℕ) → (row_of k).fixed ≡ n → (row_of k).text ≡ false → to ≡ from + n
  next_exact n e bare =
      let whole = next_entry in
      let order = next_order s at k c r stepped from to next is in
      let none : (shape_of k).unit ≡ 0 = rw bare in
      omega (arith, whole.is, next_size, fixed_long (shape_of k) (take (to - from) (drop from s)) none (omega (arith, whole.is, whole.some)))

-- ---- turns of a rule on each entry
pub all_begin : (good : List ℕ → Bool) (s : List ℕ) (at k : ℕ) (c : Cursor) → c ≡ record { field = 0; from = 0; to = 0 }
    → all_of good (entries_at s at k) ≡ all_of good (left s at k c)
all_begin good s at k c e = ap (λ (es : List (List ℕ)). all_of good es) (sym (begin_left s at k c e))

module _ (good : List ℕ → Bool) (s : List ℕ) (at k : ℕ) (c : Cursor) (so : all_of good (entries_at s at k) ≡ all_of good (left s at k c))
    (r : Option (ℕ × ℕ × Cursor)) (stepped : Stepped s at k c r) where
  pub all_done : r ≡ None → true ≡ all_of good (entries_at s at k)
  unfolding all_of
  all_done e = sym (so ∙ ap (λ (es : List (List ℕ)). all_of good es) (next_done s at k c r stepped e))

  module _ (from to : ℕ) (next : Cursor) (is : r ≡ Some (from, to, next)) (q : Bool) (told : q ≡ good (take (to - from) (drop from s))) where
    all_here : all_of good (entries_at s at k) ≡ (good (take (to - from) (drop from s)) && all_of good (left s at k next))
    unfolding all_of
    all_here = so ∙ ap (λ (es : List (List ℕ)). all_of good es) (next_left s at k c r stepped from to next is)

    pub all_no : not q ≡ true → false ≡ all_of good (entries_at s at k)
    all_no t = sym (all_here ∙ ap (λ (x : Bool). x && all_of good (left s at k next)) (told_no q (good (take (to - from) (drop from s))) told t))

    pub all_on : not q ≡ false → all_of good (entries_at s at k) ≡ all_of good (left s at k next)
    all_on t = all_here ∙ ap (λ (x : Bool). x && all_of good (left s at k next)) (told_yes q (good (take (to - from) (drop from s))) told t)

-- ---- turns of a state taken through the entries
pub through_begin : {S : Type 0} (step : S → List ℕ → S) (first : S) (s : List ℕ) (at k : ℕ) (c : Cursor) → c ≡ record { field = 0; from = 0; to = 0 }
    → through step first (entries_at s at k) ≡ through step first (left s at k c)
through_begin step first s at k c e = ap (λ (es : List (List ℕ)). through step first es) (sym (begin_left s at k c e))

module _ {S : Type 0} (step : S → List ℕ → S) (first state : S) (s : List ℕ) (at k : ℕ) (c : Cursor)
    (so : through step first (entries_at s at k) ≡ through step state (left s at k c)) (r : Option (ℕ × ℕ × Cursor)) (stepped : Stepped s at k c r) where
  pub through_done : r ≡ None → state ≡ through step first (entries_at s at k)
  unfolding through
  through_done e = sym (so ∙ ap (λ (es : List (List ℕ)). through step state es) (next_done s at k c r stepped e))

  pub through_on : (from to : ℕ) (next : Cursor) → r ≡ Some (from, to, next) → (t : S) → t ≡ step state (take (to - from) (drop from s))
      → through step first (entries_at s at k) ≡ through step t (left s at k next)
  unfolding through
  through_on from to next is t told =
      so ∙ ap (λ (es : List (List ℕ)). through step state es) (next_left s at k c r stepped from to next is) ∙ rw told
