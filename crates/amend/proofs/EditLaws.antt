-- The edit of one list, from the two that stand side by side. Assumes nothing.
use Prim.Native.Nat.{ℕ, ◌+◌, ◌≤◌}
use mathlib.Core.Bool.{Bool, true, false}
use mathlib.Core.List.{List, [], ◌∷◌, flatten}
use mathlib.Core.Logic.{⊎_elim}
use mathlib.Core.Option.{none}
use mathlib.Core.Path.{◌≡◌, refl, sym, ap, ◌∙◌}
use native.Mathlib.Omega.{arith}
use lib.ListN.{length}
use lib.Dec.{eqb}
use borrow.Author.Tests.{eqb-true}
use Rattle.std.specs.Prelude.{Option, Some, None, is_none}
use Rattle.octets.specs.Area.{Wrote}
use Rattle.octets.proofs.AreaLaws.{wrote_as}
use Rattle.octets.proofs.Cases.{true_or_false}
use Rattle.entries.specs.declared.Shape.{Shape}
use Rattle.entries.specs.Entries.{entries_of}
use Rattle.entries.proofs.EntriesLaws.{entries_nil}
use Rattle.table.specs.Table.{row_of, table}
use Rattle.attributes.specs.Attributes.{attribute, label_of, is_removal}
use Rattle.layout.specs.Layout.{shape_of}
use Rattle.layout.proofs.KindLaws.{shape_sound}
use Rattle.fieldvalue.specs.Value.{is_attributes}
use Rattle.items.specs.Lists.{list_at, entries_at}
use Rattle.items.proofs.ListsLaws.{list_whole}
use Rattle.items.specs.Item.{list_of, item_at}
use Rattle.itemfields.proofs.BytesLaws.{list_bytes_lem}
use Rattle.edits.specs.AttributeEdit.{changes, changes_find}
use Rattle.edits.specs.OnePass.{apart, one_pass, findable}
use Rattle.edits.specs.Lists.{list_allowed, list_edited, control_of, lists_edited, allowed_at}
use Rattle.edits.proofs.OnePassLaws.{one_pass_lem, one_pass_finds}
use Rattle.splice.specs.declared.control.Control.{Control}
use Rattle.splice.specs.Given.{option_of}
use Rattle.splice.specs.Put.{Two, ListPut}
use Rattle.splice.proofs.PutLaws.{put_yes}
use Rattle.labelled.specs.Table.{Labelled, Blank}
use Rattle.changes.specs.Change.{amendment_at, edit_of}
use Rattle.amend.specs.declared.lists.Split.{Split}
use Rattle.amend.specs.Sides.{Sides, list_bytes, Picked, Areas, SideBySide, front_of, back_of, may_put, put_of, Ready, StaysTold}

-- the same list, whatever its verdict and its bytes are called
pub put_as : {may : Bool} {bytes area next : List ℕ} {at : ℕ} {r : Option ℕ} (might : Bool) (same : List ℕ) → ListPut may bytes area at next r
    → might ≡ may → (might ≡ true → same ≡ bytes) → ListPut might same area at next r
put_as might same p m b = record {
  no = λ e. m ∙ p.no e;
  yes = λ e is. let y = p.yes e is in let t : might ≡ true = m ∙ y.0 in (t, rw (b t) y.1);
  size = p.size;
}

attribute_shape : (k : ℕ) → is_attributes k ≡ true → shape_of k ≡ attribute
unfolding is_attributes row_of table
attribute_shape k is =
    ⊎_elim (λ (a : eqb k 4 ≡ true). rw (eqb-true k 4 a))
    (λ (a : eqb k 4 ≡ false).
    ⊎_elim (λ (b : eqb k 12 ≡ true). rw (eqb-true k 12 b))
    (λ (b : eqb k 12 ≡ false). rw (eqb-true k 13 (rw (a, b) at is))) (true_or_false (eqb k 12)))
    (true_or_false (eqb k 4))

-- ---- by the kind: what the callees take and promise
module _ {k : ℕ} {c : Option Control} {old new : List ℕ} (ready : Ready k c old new) (b : Bool) (told : b ≡ is_attributes k) where
  pub ready_labels : b ≡ true → Labelled old new
  ready_labels is = ready.labels (sym told ∙ is)

  pub put_labels : {a d : List ℕ} {at : ℕ} {r : Option ℕ} → b ≡ true
      → ListPut (findable label_of is_removal (entries_of attribute old) (entries_of attribute new))
      (flatten (one_pass label_of is_removal (entries_of attribute old) (entries_of attribute new))) a at d r
      → ListPut (may_put k (option_of c) (entries_of (shape_of k) old) (entries_of (shape_of k) new))
      (flatten (put_of k (option_of c) (entries_of (shape_of k) old) (entries_of (shape_of k) new))) a at d r
  unfolding may_put put_of
  put_labels is p = let t = sym told ∙ is in rw (attribute_shape k t, t) p

  pub put_control : {a d : List ℕ} {at : ℕ} {r : Option ℕ} (sh : Shape) → b ≡ false → sh ≡ shape_of k
      → ListPut (list_allowed (option_of c) (length (entries_of sh old)) (length (entries_of sh new)))
      (flatten (list_edited (option_of c) (entries_of sh old) (entries_of sh new))) a at d r
      → ListPut (may_put k (option_of c) (entries_of (shape_of k) old) (entries_of (shape_of k) new))
      (flatten (put_of k (option_of c) (entries_of (shape_of k) old) (entries_of (shape_of k) new))) a at d r
  unfolding may_put put_of
  put_control sh is e p = let f = sym told ∙ is in rw (f, ← e) p

pub ready_two : {k : ℕ} {c : Option Control} {old new : List ℕ} (sh : Shape) → Ready k c old new → sh ≡ shape_of k → Two sh old new
ready_two sh ready e = rw e ready.two

-- ---- the entries of a list
pub list_entries : (s : List ℕ) (at k : ℕ) → (row_of k).list ≡ true → list_of s at k ≡ entries_at s at k
unfolding list_of
list_entries s at k list = rw list

-- ---- the two lists of a record of the cell and of one of the update
module _ {cell : List ℕ} {at : ℕ} {update : List ℕ} {by : ℕ} (sides : Sides cell at update by) where
  pub sides_room : {join table : List ℕ} (k : ℕ) → Areas join table → length (list_at cell at k) + length (list_at update by k) ≤ length join
  sides_room k areas = let w = areas.wide in omega (arith, sides.old_few k, sides.new_few k)

  -- attributes in one pass
  module _ (k : ℕ) (list : (row_of k).list ≡ true) (is : is_attributes k ≡ true) where
    pub held_apart : apart label_of (list_of cell at k) ≡ true
    held_apart = rw (list_entries cell at k list) (sides.old_apart k is)

    brought_apart : apart label_of (list_of update by k) ≡ true
    brought_apart = rw (list_entries update by k list) (sides.new_apart k is)

    found_is : allowed_at (edit_of (amendment_at update by)) (item_at cell at).lists k ≡ findable label_of is_removal (list_of cell at k) (list_of update by k)
    unfolding allowed_at
    found_is = rw is (one_pass_finds label_of is_removal (list_of cell at k) (list_of update by k) brought_apart)

    pub pass_is : allowed_at (edit_of (amendment_at update by)) (item_at cell at).lists k ≡ true
        → lists_edited (edit_of (amendment_at update by)) (item_at cell at).lists k ≡ one_pass label_of is_removal (list_of cell at k) (list_of update by k)
    unfolding lists_edited
    pass_is may = rw is (one_pass_lem label_of is_removal (list_of cell at k) (list_of update by k) held_apart brought_apart (sym found_is ∙ may))

  module _ {k : ℕ} {c : Option Control} (pick : Picked cell at update by k c) where
    labels_ready : is_attributes k ≡ true → Labelled (list_at cell at k) (list_at update by k)
    unfolding entries_at
    labels_ready is =
        let by_shape : (bs : List ℕ) → entries_of attribute bs ≡ entries_of (shape_of k) bs = λ bs. ap (λ (sh : Shape). entries_of sh bs) (sym (attribute_shape k is)) in
        record {
          once = ap (apart label_of) (by_shape (list_at cell at k)) ∙ sides.old_apart k is;
          once_new = ap (apart label_of) (by_shape (list_at update by k)) ∙ sides.new_apart k is;
          short = omega (arith, sides.old_few k);
          short_new = omega (arith, sides.new_few k);
        }

    lists_ready : Ready k c (list_at cell at k) (list_at update by k)
    lists_ready = record {
      small = pick.small;
      two = record {
        sound = shape_sound k;
        old = list_whole cell at k sides.old pick.list;
        new = list_whole update by k sides.new pick.list;
        short = omega (arith, sides.old_few k);
        short_new = omega (arith, sides.new_few k);
      };
      labels = labels_ready;
    }

    control_allowed : is_attributes k ≡ false
        → allowed_at (edit_of (amendment_at update by)) (item_at cell at).lists k ≡ list_allowed (option_of c) (length (list_of cell at k)) (length (list_of update by k))
    unfolding allowed_at
    control_allowed f = rw (f, pick.is)

    control_edited : is_attributes k ≡ false
        → lists_edited (edit_of (amendment_at update by)) (item_at cell at).lists k ≡ list_edited (option_of c) (list_of cell at k) (list_of update by k)
    unfolding lists_edited
    control_edited f = rw (f, pick.is)

    allowed_is : allowed_at (edit_of (amendment_at update by)) (item_at cell at).lists k ≡ may_put k (option_of c) (list_of cell at k) (list_of update by k)
    unfolding may_put
    allowed_is =
        ⊎_elim (λ (t : is_attributes k ≡ true). rw t (found_is k pick.list t)) (λ (f : is_attributes k ≡ false). rw f (control_allowed f))
        (true_or_false (is_attributes k))

    edited_is : allowed_at (edit_of (amendment_at update by)) (item_at cell at).lists k ≡ true
        → lists_edited (edit_of (amendment_at update by)) (item_at cell at).lists k ≡ put_of k (option_of c) (list_of cell at k) (list_of update by k)
    unfolding put_of
    edited_is may =
        ⊎_elim (λ (t : is_attributes k ≡ true). rw t (pass_is k pick.list t may)) (λ (f : is_attributes k ≡ false). rw f (control_edited f))
        (true_or_false (is_attributes k))

    module _ {join : List ℕ} {s : Split} (side : SideBySide (list_at cell at k) (list_at update by k) join s) where
      pub joined_ready : Ready k c (front_of join s) (back_of join s)
      joined_ready = rw (side.first, side.second) lists_ready

      pub joined_room : (place room : ℕ) → place + (length (list_at cell at k) + length (list_at update by k)) ≤ room
          → place + (length (front_of join s) + length (back_of join s)) ≤ room
      joined_room place room h = rw (side.first, side.second) h

      pub joined_put : {a d : List ℕ} {place : ℕ} {r : Option ℕ}
          → ListPut (may_put k (option_of c) (entries_of (shape_of k) (front_of join s)) (entries_of (shape_of k) (back_of join s)))
          (flatten (put_of k (option_of c) (entries_of (shape_of k) (front_of join s)) (entries_of (shape_of k) (back_of join s)))) a place d r
          → ListPut (allowed_at (edit_of (amendment_at update by)) (item_at cell at).lists k) (list_bytes cell at update by k) a place d r
      unfolding entries_at
      joined_put p =
          let first : entries_of (shape_of k) (front_of join s) ≡ list_of cell at k = ap (entries_of (shape_of k)) side.first ∙ sym (list_entries cell at k pick.list) in
          let second : entries_of (shape_of k) (back_of join s) ≡ list_of update by k = ap (entries_of (shape_of k)) side.second ∙ sym (list_entries update by k pick.list) in
          put_as _ _ (rw (first, second) at p) allowed_is (λ may. ap flatten (edited_is may))

-- ---- a list that stays
stays_never : (b : Bool) → b ≡ true → b ≡ false → ⊥
stays_never b t f = let e : true ≡ false = sym t ∙ f in let z : ◌≡◌ {A = ℕ} 0 1 = cc in omega arith

none_of : (c : Option Control) → is_none c ≡ true → option_of c ≡ none
unfolding option_of
none_of None h = refl
none_of (Some c) h = absurd (stays_never false h refl)

pub stays_by : {update : List ℕ} {by k : ℕ} {c : Option Control} (n : ℕ) → is_none c ≡ true → n ≡ length (list_at update by k) → StaysTold update by k c (eqb n 0)
stays_by {c = c} n off long = record { free = λ (t : eqb n 0 ≡ true). none_of c off; bare = λ (t : eqb n 0 ≡ true). sym long ∙ eqb-true n 0 t }

pub stays_room : (place old new n : ℕ) → place + (old + new) ≤ n → place + old ≤ n
stays_room place old new n h = omega arith

no_bytes : (l : List ℕ) → length l ≡ 0 → l ≡ []
no_bytes [] e = refl
no_bytes (b ∷ bs) e = absurd (omega arith)

module _ {cell : List ℕ} {at : ℕ} {update : List ℕ} {by : ℕ} (sides : Sides cell at update by) {k : ℕ} {c : Option Control} (pick : Picked cell at update by k c) {b : Bool}
    (told : StaysTold update by k c b) (yes : b ≡ true) where
  nothing_comes : list_of update by k ≡ []
  unfolding entries_at
  nothing_comes =
      list_entries update by k pick.list
      ∙ ap (λ (l : List ℕ). entries_of (shape_of k) l) (no_bytes (list_at update by k) (told.bare yes))
      ∙ entries_nil (shape_of k)

  no_control_lem : control_of (edit_of (amendment_at update by)) (item_at cell at).lists k ≡ none
  no_control_lem = sym pick.is ∙ told.free yes

  stays_allowed : allowed_at (edit_of (amendment_at update by)) (item_at cell at).lists k ≡ true
  unfolding allowed_at changes_find list_allowed
  stays_allowed =
      ⊎_elim (λ (t : is_attributes k ≡ true). rw (t, nothing_comes)) (λ (f : is_attributes k ≡ false). rw (f, no_control_lem, nothing_comes))
      (true_or_false (is_attributes k))

  stays_same : lists_edited (edit_of (amendment_at update by)) (item_at cell at).lists k ≡ list_of cell at k
  unfolding lists_edited changes list_edited
  stays_same =
      ⊎_elim (λ (t : is_attributes k ≡ true). rw (t, nothing_comes)) (λ (f : is_attributes k ≡ false). rw (f, no_control_lem))
      (true_or_false (is_attributes k))

  stays_bytes : list_bytes cell at update by k ≡ list_at cell at k
  stays_bytes = ap flatten stays_same ∙ list_bytes_lem cell at k sides.old pick.list

  pub stays_put : {a d : List ℕ} {place r : ℕ} → Wrote a place (list_at cell at k) d r
      → ListPut (allowed_at (edit_of (amendment_at update by)) (item_at cell at).lists k) (list_bytes cell at update by k) a place d (Some r)
  stays_put w = put_yes stays_allowed (wrote_as (list_bytes cell at update by k) (sym stays_bytes) w)

pub sides_areas : {was join before table : List ℕ} → Areas was before → length join ≡ length was → Blank table → Areas join table
sides_areas areas size zero = record { wide = rw size areas.wide; zero = zero }
