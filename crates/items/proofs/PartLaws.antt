-- Laws of the step through a list by parts: what a step answers, and turns of a rule on each entry, where "the answer from here is the
-- answer from the start". Assumes nothing.
use Prim.Native.Nat.{ℕ, ◌+◌, ◌-◌, ◌≤◌, ◌<◌}
use mathlib.Core.Bool.{Bool, true, false, not, ◌&&◌}
use mathlib.Core.List.{List, [], ◌∷◌, ◌++◌, flatten}
use mathlib.Core.Path.{◌≡◌, refl, sym, ap, ◌∙◌}
use native.Mathlib.Omega.{arith}
use lib.ListN.{length, take, drop, length-append, length-take, length-drop}
use Rattle.std.specs.Prelude.{Option, Some, None}
use Rattle.octets.proofs.Tests.{told_no, told_yes}
use Rattle.iso8211.specs.Field.{count_at}
use Rattle.entries.specs.declared.Shape.{Shape}
use Rattle.entries.specs.Entries.{entries_of}
use Rattle.entries.specs.Premises.{Whole}
use Rattle.entries.specs.Rules.{all_of}
use Rattle.entries.proofs.EntryLaws.{len_short, len_bare}
use Rattle.entries.proofs.RulesLaws.{all_append}
use Rattle.entries.proofs.WalkLaws as walk
use Rattle.table.specs.Table.{row_of}
use Rattle.layout.specs.Layout.{shape_of}
use Rattle.items.specs.Lists.{join_from, entries_at}
use Rattle.items.specs.Cursors.{left, CursorIn, Settled, PartStepped}
use Rattle.items.specs.declared.cursor.Cursor.{Cursor}
use Rattle.items.proofs.ListsLaws.{whole_none}
use Rattle.items.proofs.CursorLaws.{spent_part, spent_left}

-- ---- what a step answers, the cursor being settled at d
pub part_none : (s : List ℕ) (at k : ℕ) (c d : Cursor) → Settled s at k c d → d.to ≤ d.from → PartStepped s at k c None
unfolding PartStepped
part_none s at k c d settled h = settled.same ∙ settled.last h

part_front : (s : List ℕ) (at k : ℕ) (d : Cursor) → left s at k d
    ≡ entries_of (shape_of k) (take (d.to - d.from) (drop d.from s)) ++ entries_of (shape_of k) (join_from (count_at s at - d.field) s at k d.field)
unfolding left
part_front s at k d = refl

pub part_some : (s : List ℕ) (at k : ℕ) (c d : Cursor) → Settled s at k c d → d.from < d.to
    → PartStepped s at k c (Some (d.from, d.to, record { field = d.field; from = d.to; to = d.to }))
unfolding PartStepped
part_some s at k c d settled h =
    let within = settled.inside.within in
    let after : Cursor = record { field = d.field; from = d.to; to = d.to } in
    let behind : left s at k after ≡ entries_of (shape_of k) (join_from (count_at s at - d.field) s at k d.field) = spent_left s at k after (omega arith) in (
      settled.same ∙ part_front s at k d ∙ ap (λ (l : List (List ℕ)). entries_of (shape_of k) (take (d.to - d.from) (drop d.from s)) ++ l) (sym behind),
      omega arith,
      omega arith,
      record { order = omega arith; within = within; below = settled.inside.below; wholly = rw (spent_part s d.to d.to (omega arith)) (whole_none (shape_of k)) },
      settled.inside.wholly,
    )

-- ---- bytes that whole entries fill hold one at least
filled_some : (es : List (List ℕ)) (bs : List ℕ) → flatten es ≡ bs → 0 < length bs → 0 < length es
unfolding flatten
filled_some [] bs e h = absurd (omega (arith, ap length e))
filled_some (x ∷ es) bs e h = omega arith

-- ---- what a caller learns of a step: r is its answer at the cursor c
module _ (s : List ℕ) (at k : ℕ) (c : Cursor) (r : Option (ℕ × ℕ × Cursor)) (stepped : PartStepped s at k c r) where
  pub part_done : r ≡ None → left s at k c ≡ []
  unfolding PartStepped
  part_done e = rw e at stepped

  module _ (from to : ℕ) (after : Cursor) (is : r ≡ Some (from, to, after)) where
    pub part_left : left s at k c ≡ entries_of (shape_of k) (take (to - from) (drop from s)) ++ left s at k after
    unfolding PartStepped
    part_left = (rw is at stepped).0

    pub part_order : from < to
    unfolding PartStepped
    part_order = (rw is at stepped).1

    pub part_up : from ≤ to
    part_up = omega (arith, part_order)

    pub part_within : to ≤ length s
    unfolding PartStepped
    part_within = (rw is at stepped).2

    pub part_in : CursorIn s at k after
    unfolding PartStepped
    part_in = (rw is at stepped).3

    pub part_whole : Whole (shape_of k) (take (to - from) (drop from s))
    unfolding PartStepped
    part_whole = (rw is at stepped).4

    -- a measure of a loop over the list
    pub part_less : length (left s at k after) < length (left s at k c)
    part_less =
        let b = take (to - from) (drop from s) in
        let long : length b ≡ to - from = rw (length-take, length-drop) (omega (arith, part_order, part_within)) in
        let some : 0 < length (entries_of (shape_of k) b) = filled_some (entries_of (shape_of k) b) b part_whole.is (omega (arith, long, part_order)) in
        omega (arith, some, ap length part_left, length-append (entries_of (shape_of k) b) (left s at k after))

-- ---- turns of a rule on each entry, part by part
module _ (good : List ℕ → Bool) (s : List ℕ) (at k : ℕ) (c : Cursor) (so : all_of good (entries_at s at k) ≡ all_of good (left s at k c))
    (r : Option (ℕ × ℕ × Cursor)) (stepped : PartStepped s at k c r) where
  pub parts_done : r ≡ None → true ≡ all_of good (entries_at s at k)
  unfolding all_of
  parts_done e = sym (so ∙ ap (λ (es : List (List ℕ)). all_of good es) (part_done s at k c r stepped e))

  module _ (from to : ℕ) (after : Cursor) (is : r ≡ Some (from, to, after)) (q : Bool)
      (told : q ≡ all_of good (entries_of (shape_of k) (take (to - from) (drop from s)))) where
    parts_here : all_of good (entries_at s at k) ≡ (all_of good (entries_of (shape_of k) (take (to - from) (drop from s))) && all_of good (left s at k after))
    parts_here =
        so ∙ ap (λ (es : List (List ℕ)). all_of good es) (part_left s at k c r stepped from to after is)
        ∙ all_append good (entries_of (shape_of k) (take (to - from) (drop from s))) (left s at k after)

    pub parts_no : not q ≡ true → false ≡ all_of good (entries_at s at k)
    parts_no t =
        sym (parts_here ∙ ap (λ (x : Bool). x && all_of good (left s at k after)) (told_no q (all_of good (entries_of (shape_of k) (take (to - from) (drop from s)))) told t))

    pub parts_on : not q ≡ false → all_of good (entries_at s at k) ≡ all_of good (left s at k after)
    parts_on t =
        parts_here ∙ ap (λ (x : Bool). x && all_of good (left s at k after)) (told_yes q (all_of good (entries_of (shape_of k) (take (to - from) (drop from s)))) told t)

-- ---- entries without a text, all of n bytes: a part is gone through in strides of n
pub bare_shape : (k n : ℕ) → (row_of k).fixed ≡ n → (row_of k).text ≡ false → ◌≡◌ {A = Shape} (record { fixed = n; unit = 0 }) (shape_of k)
bare_shape k n bytes bare = rw (bytes, bare)

pub bare_told : (good : List ℕ → Bool) (k n : ℕ) (b : List ℕ) (q : Bool) → (row_of k).fixed ≡ n → (row_of k).text ≡ false
    → q ≡ all_of good (entries_of (record { fixed = n; unit = 0 }) b) → q ≡ all_of good (entries_of (shape_of k) b)
bare_told good k n b q bytes bare told = told ∙ ap (λ (sh : Shape). all_of good (entries_of sh b)) (bare_shape k n bytes bare)

module _ (good : List ℕ → Bool) (n : ℕ) (b : List ℕ) (at : ℕ)
    (so : all_of good (entries_of (record { fixed = n; unit = 0 }) b) ≡ all_of good (entries_of (record { fixed = n; unit = 0 }) (drop at b))) where
  pub stride_end : length b - at < n → true ≡ all_of good (entries_of (record { fixed = n; unit = 0 }) b)
  stride_end h = walk.all_done (record { fixed = n; unit = 0 }) good b at so 0 (len_short b at (record { fixed = n; unit = 0 }) h) refl

  module _ (some : 8 ≤ n) (more : n ≤ length b - at) (r : Bool) (told : r ≡ good (take (at + n - at) (drop at b))) where
    stride_some : n ≡ 0 → ⊥
    stride_some e = omega arith

    pub stride_on : not r ≡ false
        → all_of good (entries_of (record { fixed = n; unit = 0 }) b) ≡ all_of good (entries_of (record { fixed = n; unit = 0 }) (drop (at + n) b))
    stride_on =
        walk.all_on (record { fixed = n; unit = 0 }) good b at so n (len_bare b at (record { fixed = n; unit = 0 }) more refl) stride_some r told
